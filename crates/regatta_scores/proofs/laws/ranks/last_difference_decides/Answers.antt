use Rattle.regatta_scores.proofs.BeatingLaws.{last_difference_decides}
use Rattle.regatta_scores.proofs.laws.ranks.last_difference_decides.Goals as goal

pub returns : goal.returns
returns c = last_difference_decides
