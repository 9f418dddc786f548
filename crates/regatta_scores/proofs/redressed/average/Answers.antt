use Rattle.regatta_scores.proofs.redressed.average.Goals as goal

pub returns : goal.returns
returns c = c.tenths.ensures
