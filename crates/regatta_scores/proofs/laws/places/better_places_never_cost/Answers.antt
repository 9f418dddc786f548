use Rattle.regatta_scores.proofs.PlaceLaws.{better_places_never_cost}
use Rattle.regatta_scores.proofs.laws.places.better_places_never_cost.Goals as goal

pub returns : goal.returns
returns c = better_places_never_cost
