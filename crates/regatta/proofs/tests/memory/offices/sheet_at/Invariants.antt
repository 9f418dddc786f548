use Rattle.regatta.proofs.tests.memory.offices.sheet_at.Given as goal

-- the office that was just opened
abbrev pub ghosts-sheet_with : goal.ghosts-sheet_with
ghosts-sheet_with g a = record { history = a.opened.history; rules = a.opened.rules }
