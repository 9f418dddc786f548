use Rattle.std.proofs.Common.{◌∙◌}
use Rattle.regatta_scores.proofs.points.race_points.Goals as goal

pub returns-clause-ok : goal.returns-clause-ok
returns-clause-ok c = c.new.ensures ∙ c.in_ok-points.ensures
