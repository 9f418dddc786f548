use Rattle.regatta_scores.proofs.Sorting.{counting_scores_rise}
use Rattle.regatta_scores.proofs.laws.ranks.counting_scores_rise.Goals as goal

pub returns : goal.returns
returns c = counting_scores_rise
