use Rattle.regatta_scores.proofs.work.Work.count.Goals as goal

pub returns : goal.returns
returns c = c.self.view_is
