use Rattle.regatta_scores.proofs.AverageBounds.{averages_lie_between, averages_are_nearest}
use Rattle.regatta_scores.proofs.laws.redress.averages_lie_between.Goals as goal

pub returns-clause-between : goal.returns-clause-between
returns-clause-between c = averages_lie_between

pub returns-clause-nearest : goal.returns-clause-nearest
returns-clause-nearest c = averages_are_nearest
