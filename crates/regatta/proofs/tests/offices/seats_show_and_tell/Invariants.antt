use Rattle.regatta.proofs.tests.offices.seats_show_and_tell.Given as goal

-- the office that was just opened
abbrev pub ghosts-tells : goal.ghosts-tells
ghosts-tells g a = record { history = a.opened.history; rules = a.opened.rules }
