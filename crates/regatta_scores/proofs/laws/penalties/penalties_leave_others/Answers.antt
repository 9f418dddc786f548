use Rattle.regatta_scores.proofs.PenaltyLaws.{penalties_leave_others}
use Rattle.regatta_scores.proofs.laws.penalties.penalties_leave_others.Goals as goal

pub returns : goal.returns
returns c = penalties_leave_others
