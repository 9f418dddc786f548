use Rattle.regatta_office.proofs.shown.Shown.rank.Goals as goal

pub returns : goal.returns
returns c = rw (← c.self.view_is) c.rank.ensures
