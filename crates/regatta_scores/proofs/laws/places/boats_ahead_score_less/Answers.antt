use Rattle.regatta_scores.proofs.PlaceLaws.{ahead_is_better}
use Rattle.regatta_scores.proofs.laws.places.boats_ahead_score_less.Goals as goal

pub returns : goal.returns
returns c = ahead_is_better
