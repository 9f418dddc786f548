use Rattle.regatta_office.proofs.clients.serve_unkept_series.Given as goal

-- the office that was just opened
abbrev pub ghosts-serve_office : goal.ghosts-serve_office
ghosts-serve_office g a = record { history = a.opened.history; rules = a.opened.rules }
