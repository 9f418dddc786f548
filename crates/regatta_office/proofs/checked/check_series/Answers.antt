use Rattle.std.proofs.Common.{false}
use Rattle.regatta_office.specs.CheckedStarts.{PrintsCheck}
use Rattle.regatta_office.proofs.Checking.{judged, unchanged}
use Rattle.regatta_office.proofs.checked.check_series.Goals as goal

-- nothing is checked
pub returns-in_err-check-clause-faulty : goal.returns-in_err-check-clause-faulty
returns-in_err-check-clause-faulty g c =
    let old = g.W.Device.contents c.args.output.now in
    unchanged c.from_residual.result old (PrintsCheck false c.args.options.now old old)

-- something is wrong
pub returns-clause-faulty : goal.returns-clause-faulty
returns-clause-faulty g c =
    judged c.print_and_judge.result c.args.options.now c.in_ok-check.check
    (g.W.Device.contents c.args.output.now) (g.W.Device.contents c.print_and_judge.new.output)
    c.in_ok-check.ensures c.print_and_judge.ensures.faulty
