use Rattle.regatta.proofs.tests.sessions.is_heeded.Given as goal

-- the office that was just opened
abbrev pub ghosts-are_stopped : goal.ghosts-are_stopped
ghosts-are_stopped g a = record { history = a.opened.history; rules = a.opened.rules }
