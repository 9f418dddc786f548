use Rattle.regatta_scores.proofs.Ties.{comparison_total, beating_is_an_order}
use Rattle.regatta_scores.proofs.laws.ranks.comparison_is_total.Goals as goal

pub returns-clause-total : goal.returns-clause-total
returns-clause-total c = comparison_total

pub returns-clause-beating : goal.returns-clause-beating
returns-clause-beating c = beating_is_an_order
