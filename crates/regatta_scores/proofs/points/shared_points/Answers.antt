use Rattle.std.proofs.Common.{arith}
use Rattle.regatta_scores.proofs.points.shared_points.Goals as goal

pub returns-clause-value : goal.returns-clause-value
returns-clause-value c = omega arith
