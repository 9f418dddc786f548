use Rattle.regatta.proofs.tests.memory.offices.split_outcome.Given as goal

-- the office that was just opened
abbrev pub ghosts-passes_made : goal.ghosts-passes_made
ghosts-passes_made g a = record { history = a.opened.history; rules = a.opened.rules }
