use Rattle.regatta_scores.proofs.ExclusionLaws.{no_choice_is_better}
use Rattle.regatta_scores.proofs.laws.exclusions.no_choice_is_better.Goals as goal

pub returns : goal.returns
returns c = no_choice_is_better
