use Rattle.regatta_scores.proofs.PenaltyLaws.{twenty_percent_is_nearest}
use Rattle.regatta_scores.proofs.laws.penalties.penalties_are_nearest.Goals as goal

pub returns : goal.returns
returns c = twenty_percent_is_nearest
