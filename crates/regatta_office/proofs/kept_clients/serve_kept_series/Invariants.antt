use Rattle.regatta_office.proofs.kept_clients.serve_kept_series.Given as goal

-- the office that was just opened, and the history of what is kept
abbrev pub ghosts-serve_kept_office-N-OfficeName : goal.ghosts-serve_kept_office-N-OfficeName
ghosts-serve_kept_office-N-OfficeName g a = record {
  history = a.opened.history;
  rules = a.opened.rules;
}

abbrev pub ghosts-serve_kept_office-N-KeptName : goal.ghosts-serve_kept_office-N-KeptName
ghosts-serve_kept_office-N-KeptName g a = record { kept = a.history.history }
