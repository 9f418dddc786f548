use Rattle.regatta.proofs.tests.memory.runs.serve_once.Given as goal

-- the office that was just opened
abbrev pub ghosts-serve_at : goal.ghosts-serve_at
ghosts-serve_at g a = record { history = a.opened.history; rules = a.opened.rules }
