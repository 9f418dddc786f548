use Rattle.regatta_scores.proofs.PenaltyLaws.{every_penalty_is_capped}
use Rattle.regatta_scores.proofs.laws.penalties.penalties_are_capped.Goals as goal

pub returns : goal.returns
returns c = every_penalty_is_capped
