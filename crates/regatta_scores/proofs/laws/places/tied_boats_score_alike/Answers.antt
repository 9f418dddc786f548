use Rattle.regatta_scores.proofs.PlaceLaws.{tied_boats_score_alike}
use Rattle.regatta_scores.proofs.laws.places.tied_boats_score_alike.Goals as goal

pub returns : goal.returns
returns c = tied_boats_score_alike
