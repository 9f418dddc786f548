use Rattle.regatta_scores.proofs.PlaceLaws.{lower_times_are_ahead}
use Rattle.regatta_scores.proofs.laws.places.lower_times_are_ahead.Goals as goal

pub returns : goal.returns
returns c = lower_times_are_ahead
