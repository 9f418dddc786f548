use Rattle.regatta_scores.proofs.StandingRows.{standing_has_the_entered}
use Rattle.regatta_scores.proofs.laws.ranks.standing_has_the_entered.Goals as goal

pub returns : goal.returns
returns c = standing_has_the_entered
