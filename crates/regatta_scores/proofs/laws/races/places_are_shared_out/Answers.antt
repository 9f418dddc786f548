use Rattle.regatta_scores.proofs.SharedOut.{ties_share_equally, places_are_shared_out}
use Rattle.regatta_scores.proofs.laws.races.places_are_shared_out.Goals as goal

pub returns-clause-ties : goal.returns-clause-ties
returns-clause-ties c = ties_share_equally

pub returns-clause-places : goal.returns-clause-places
returns-clause-places c = places_are_shared_out
