use Rattle.regatta_scores.proofs.A8Cases.{boats_are_beaten_in_three_cases}
use Rattle.regatta_scores.proofs.laws.ranks.boats_are_beaten_in_three_cases.Goals as goal

pub returns : goal.returns
returns c = boats_are_beaten_in_three_cases
