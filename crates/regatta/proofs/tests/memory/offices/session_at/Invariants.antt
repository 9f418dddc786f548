use Rattle.regatta.proofs.tests.memory.offices.session_at.Given as goal

-- the office that was just opened
abbrev pub ghosts-session_with : goal.ghosts-session_with
ghosts-session_with g a = record { history = a.opened.history; rules = a.opened.rules }
