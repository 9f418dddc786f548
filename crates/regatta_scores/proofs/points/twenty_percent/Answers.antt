use Rattle.std.proofs.Common.{refl}
use Rattle.regatta_scores.proofs.points.twenty_percent.Goals as goal

pub returns-clause-value : goal.returns-clause-value
returns-clause-value c = refl
