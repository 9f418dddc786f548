use Rattle.regatta_office.proofs.KeptStarting.{goes_on}
use Rattle.regatta_office.proofs.laws.kept_starts_go_on.Goals as goal

pub returns : goal.returns
returns c = λ kept journal sails start is. goes_on kept journal sails start is
