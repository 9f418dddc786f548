use Rattle.regatta_scores.proofs.ExclusionCounts.{worst_are_excluded}
use Rattle.regatta_scores.proofs.laws.ranks.worst_are_excluded.Goals as goal

pub returns : goal.returns
returns c = worst_are_excluded
