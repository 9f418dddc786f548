use Rattle.regatta_scores.proofs.JournalLaws.{each_race_tells_itself, races_in_any_order, boats_in_any_order}
use Rattle.regatta_scores.proofs.laws.journals.races_can_be_told_in_any_order.Goals as goal

pub returns-clause-races : goal.returns-clause-races
returns-clause-races c = each_race_tells_itself

pub returns-clause-commands : goal.returns-clause-commands
returns-clause-commands c = races_in_any_order

pub returns-clause-boats : goal.returns-clause-boats
returns-clause-boats c = boats_in_any_order
