use Rattle.regatta_scores.proofs.AtLeastOne.{no_score_below_one, no_score_is_below_one}
use Rattle.regatta_scores.proofs.laws.scores.no_score_is_below_one.Goals as goal

pub returns-clause-here : goal.returns-clause-here
returns-clause-here c =
    λ rules. no_score_below_one rules c.args.journal.now c.entries_are_in_range.ensures

pub returns-clause-everywhere : goal.returns-clause-everywhere
returns-clause-everywhere c = no_score_is_below_one
