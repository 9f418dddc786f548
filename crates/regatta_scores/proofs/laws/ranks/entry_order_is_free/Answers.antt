use Rattle.regatta_scores.proofs.BeatingLaws.{entry_order_doesnt_count}
use Rattle.regatta_scores.proofs.laws.ranks.entry_order_is_free.Goals as goal

pub returns : goal.returns
returns c = entry_order_doesnt_count
