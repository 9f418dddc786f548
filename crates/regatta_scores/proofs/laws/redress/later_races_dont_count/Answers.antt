use Rattle.regatta_scores.proofs.AwardLaws.{later_races_dont_count}
use Rattle.regatta_scores.proofs.laws.redress.later_races_dont_count.Goals as goal

pub returns : goal.returns
returns c = later_races_dont_count
