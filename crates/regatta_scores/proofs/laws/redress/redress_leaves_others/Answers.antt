use Rattle.regatta_scores.proofs.Apart.{redress_leaves_others}
use Rattle.regatta_scores.proofs.laws.redress.redress_leaves_others.Goals as goal

pub returns : goal.returns
returns c = redress_leaves_others
