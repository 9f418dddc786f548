use Rattle.regatta_scores.proofs.AwardLaws.{awards_stand, awards_stand_whatever_comes}
use Rattle.regatta_scores.proofs.laws.redress.awards_stand.Goals as goal

pub returns-clause-here : goal.returns-clause-here
returns-clause-here c = awards_stand

pub returns-clause-later : goal.returns-clause-later
returns-clause-later c = awards_stand_whatever_comes
