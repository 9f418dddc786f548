use Rattle.regatta.proofs.tests.serving.leaves.Given as goal

-- the office that was just opened
abbrev pub ghosts-leaves_at : goal.ghosts-leaves_at
ghosts-leaves_at g a = record { history = a.opened.history; rules = a.opened.rules }
