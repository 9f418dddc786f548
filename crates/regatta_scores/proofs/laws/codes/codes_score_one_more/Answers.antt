use Rattle.regatta_scores.proofs.CodeLaws.{unplaced_by_a52, unplaced_by_a53}
use Rattle.regatta_scores.proofs.laws.codes.codes_score_one_more.Goals as goal

pub returns-clause-a5_2 : goal.returns-clause-a5_2
returns-clause-a5_2 c = unplaced_by_a52

pub returns-clause-a5_3 : goal.returns-clause-a5_3
returns-clause-a5_3 c = unplaced_by_a53
