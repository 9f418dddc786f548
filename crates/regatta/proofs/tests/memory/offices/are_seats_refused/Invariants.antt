use Rattle.regatta.proofs.tests.memory.offices.are_seats_refused.Given as goal

-- the office that was just opened
abbrev pub ghosts-are_refused_at : goal.ghosts-are_refused_at
ghosts-are_refused_at g a = record { history = a.opened.history; rules = a.opened.rules }
