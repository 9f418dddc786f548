use Rattle.regatta_scores.proofs.ExclusionLaws.{dnes_count}
use Rattle.regatta_scores.proofs.laws.exclusions.dnes_count.Goals as goal

pub returns : goal.returns
returns c = dnes_count
