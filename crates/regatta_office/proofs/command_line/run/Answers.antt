use Rattle.std.proofs.Common.{◌≡◌, IfErr, sym, subst}
use Rattle.regatta_office.specs.Complaints.{status_of}
use Rattle.regatta_office.specs.Runs.{AtMostRunOf, FaultyRunOf}
use Rattle.regatta_office.specs.declared.options.Asked.{Asked}
use Rattle.regatta_office.proofs.Checking.{faulty_run}
use Rattle.regatta_office.proofs.command_line.run.Goals as goal

pub returns-in-Serve-clause-at_most : goal.returns-in-Serve-clause-at_most
returns-in-Serve-clause-at_most g c =
    subst (λ (asked : Asked). AtMostRunOf asked (g.R.Device.remaining c.args.input.now)
    (g.W.Device.contents c.args.output.now) (g.W.Device.contents c.serve_series.new.output))
    (sym c.in-Serve.is) c.serve_series.ensures.at_most

pub returns-in-Preview-clause-at_most : goal.returns-in-Preview-clause-at_most
returns-in-Preview-clause-at_most g c =
    subst (λ (asked : Asked). AtMostRunOf asked (g.R.Device.remaining c.args.input.now)
    (g.W.Device.contents c.args.output.now) (g.W.Device.contents c.preview_series.new.output))
    (sym c.in-Preview.is) c.preview_series.ensures.at_most

pub returns-in-Check-clause-at_most : goal.returns-in-Check-clause-at_most
returns-in-Check-clause-at_most g c =
    subst (λ (asked : Asked). AtMostRunOf asked (g.R.Device.remaining c.args.input.now)
    (g.W.Device.contents c.args.output.now) (g.W.Device.contents c.check_series.new.output))
    (sym c.in-Check.is) c.check_series.ensures.at_most

-- ---- with status 1

pub returns-in-Replay-clause-faulty : goal.returns-in-Replay-clause-faulty
returns-in-Replay-clause-faulty g c =
    let old = g.W.Device.contents c.args.output.now in
    let new = g.W.Device.contents c.replay_series.new.output in
    faulty_run c.replay_series.result c.args.asked.now old new
    (subst (λ (asked : Asked). FaultyRunOf asked old new) (sym c.in-Replay.is) tt)

pub returns-in-Serve-clause-faulty : goal.returns-in-Serve-clause-faulty
returns-in-Serve-clause-faulty g c =
    let old = g.W.Device.contents c.args.output.now in
    let new = g.W.Device.contents c.serve_series.new.output in
    faulty_run c.serve_series.result c.args.asked.now old new
    (subst (λ (asked : Asked). FaultyRunOf asked old new) (sym c.in-Serve.is) tt)

pub returns-in-Words-clause-faulty : goal.returns-in-Words-clause-faulty
returns-in-Words-clause-faulty g c =
    let old = g.W.Device.contents c.args.output.now in
    let new = g.W.Device.contents c.print_words.new.output in
    faulty_run c.print_words.result c.args.asked.now old new
    (subst (λ (asked : Asked). FaultyRunOf asked old new) (sym c.in-Words.is) tt)

pub returns-in-Explain-clause-faulty : goal.returns-in-Explain-clause-faulty
returns-in-Explain-clause-faulty g c =
    let old = g.W.Device.contents c.args.output.now in
    let new = g.W.Device.contents c.explain_series.new.output in
    faulty_run c.explain_series.result c.args.asked.now old new
    (subst (λ (asked : Asked). FaultyRunOf asked old new) (sym c.in-Explain.is) tt)

pub returns-in-Preview-clause-faulty : goal.returns-in-Preview-clause-faulty
returns-in-Preview-clause-faulty g c =
    let old = g.W.Device.contents c.args.output.now in
    let new = g.W.Device.contents c.preview_series.new.output in
    faulty_run c.preview_series.result c.args.asked.now old new
    (subst (λ (asked : Asked). FaultyRunOf asked old new) (sym c.in-Preview.is) tt)

pub returns-in-Check-clause-faulty : goal.returns-in-Check-clause-faulty
returns-in-Check-clause-faulty g c =
    let old = g.W.Device.contents c.args.output.now in
    let new = g.W.Device.contents c.check_series.new.output in
    subst (λ (asked : Asked). IfErr c.check_series.result
    (λ why. status_of why ≡ 1 → FaultyRunOf asked old new))
    (sym c.in-Check.is) c.check_series.ensures.faulty
