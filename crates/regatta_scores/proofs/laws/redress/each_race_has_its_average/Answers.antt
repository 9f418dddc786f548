use Rattle.regatta_scores.proofs.AwardLaws.{each_race_has_its_average}
use Rattle.regatta_scores.proofs.laws.redress.each_race_has_its_average.Goals as goal

pub returns : goal.returns
returns c = each_race_has_its_average
