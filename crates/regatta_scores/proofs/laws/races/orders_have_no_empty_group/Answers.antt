use Rattle.regatta_scores.proofs.NoEmpty.{orders_have_no_empty_group}
use Rattle.regatta_scores.proofs.laws.races.orders_have_no_empty_group.Goals as goal

pub returns : goal.returns
returns c = orders_have_no_empty_group
