use Rattle.regatta.proofs.tests.sessions.the_desk_goes_on_after_two_sessions.Given as goal

-- the office that was just opened
abbrev pub ghosts-goes_on : goal.ghosts-goes_on
ghosts-goes_on g a = record { history = a.opened.history; rules = a.opened.rules }
