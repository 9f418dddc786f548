use Rattle.regatta_scores.proofs.PlaceLaws.{places_are_counted}
use Rattle.regatta_scores.proofs.laws.places.places_are_counted.Goals as goal

pub returns : goal.returns
returns c = places_are_counted
