use Rattle.regatta_board.specs.Refusals.{limits, is_lawful}
use Rattle.regatta_keep.proofs.Restarts.{all_begin}
use Rattle.regatta_office.proofs.KeptStarting.{goes_on}
use Rattle.regatta_office.proofs.laws.kept_starts_lose_nothing.Goals as goal

pub returns : goal.returns
returns g c = λ rules book keeps last kept journal sails start runs reads is.
    all_begin (is_lawful limits rules) _ book keeps last kept start runs reads
    (goes_on kept journal sails start is)
