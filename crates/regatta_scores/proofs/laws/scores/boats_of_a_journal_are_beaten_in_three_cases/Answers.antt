use Rattle.regatta_scores.proofs.AtLeastOne.{boats_beat_in_three_cases, entries_beat_in_three_cases}
use Rattle.regatta_scores.proofs.laws.scores.boats_of_a_journal_are_beaten_in_three_cases.Goals as goal

pub returns-clause-here : goal.returns-clause-here
returns-clause-here c =
    λ rules. boats_beat_in_three_cases rules c.args.journal.now c.entries_are_in_range.ensures

pub returns-clause-everywhere : goal.returns-clause-everywhere
returns-clause-everywhere c = entries_beat_in_three_cases
