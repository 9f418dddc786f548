use Rattle.regatta_scores.proofs.ExclusionLaws.{excluded_arent_used}
use Rattle.regatta_scores.proofs.laws.exclusions.excluded_scores_are_not_listed.Goals as goal

pub returns : goal.returns
returns c = excluded_arent_used
