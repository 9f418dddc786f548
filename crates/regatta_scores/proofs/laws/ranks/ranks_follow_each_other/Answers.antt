use Rattle.regatta_scores.proofs.Ranked.{ranks_follow_each_other}
use Rattle.regatta_scores.proofs.laws.ranks.ranks_follow_each_other.Goals as goal

pub returns : goal.returns
returns c = ranks_follow_each_other
