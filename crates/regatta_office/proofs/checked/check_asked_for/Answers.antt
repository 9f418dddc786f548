use Rattle.std.proofs.Common.{subst}
use Rattle.regatta_office.specs.Asked.{CheckAsked}
use Rattle.regatta_office.specs.CheckedStarts.{IsCheckOf}
use Rattle.regatta_office.proofs.checked.check_asked_for.Goals as goal

pub returns : goal.returns
returns g c = subst (λ (asked : CheckAsked). IsCheckOf asked c.in_ok-check.check) c.options.view_is
    c.in_ok-check.ensures
