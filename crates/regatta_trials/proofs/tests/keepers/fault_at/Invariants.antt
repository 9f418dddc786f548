use Rattle.regatta_trials.proofs.tests.keepers.fault_at.Given as goal

-- the office that was just opened
abbrev pub ghosts-fault_of-N-OfficeName : goal.ghosts-fault_of-N-OfficeName
ghosts-fault_of-N-OfficeName g a = record { history = a.office.history; rules = a.office.rules }

-- and a new history
abbrev pub ghosts-fault_of-N-KeptName : goal.ghosts-fault_of-N-KeptName
ghosts-fault_of-N-KeptName g a = record { kept = a.history.history }
