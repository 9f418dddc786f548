use Rattle.std.proofs.Common.{◌≡◌, IfSome, true, subst}
use Rattle.std.specs.Io.KnownBytes.{Appends}
use Rattle.regatta_scores.specs.Journal.{Journal}
use Rattle.regatta_board.specs.Refusals.{limits, is_lawful}
use Rattle.regatta_office.specs.Asked.{IsReplayOf, ReplayAsked}
use Rattle.regatta_office.specs.Transcript.{WritesRun, run_text}
use Rattle.regatta_office.proofs.command_line.replay_series.Goals as goal

pub returns : goal.returns
returns g c =
    let given = g.R.Device.remaining c.args.input.now in
    let old = g.W.Device.contents c.args.output.now in
    let new = g.W.Device.contents c.replay.new.output in
    let rules = c.in_ok-begin.begin.rules in
    let form = c.options.inside.form in
    subst (λ (asked : ReplayAsked). IsReplayOf asked given old new) c.options.view_is (record {
      rules = rules;
      start = c.in_ok-begin.begin.start;
      begins = c.in_ok-begin.ensures;
      lawful = subst (λ (start : Journal). is_lawful limits rules start ≡ true)
          c.as_slice-start.ensures c.in_ok-replay.ensures.start;
      appendix_a = subst (λ (start : Journal). IfSome given
          (λ text. WritesRun rules start form text old new))
          c.as_slice-start.ensures c.in_ok-replay.ensures.appendix_a;
      wrote = subst (λ (start : Journal). IfSome given
          (λ text. Appends old new (run_text rules start form text)))
          c.as_slice-start.ensures c.in_ok-replay.ensures.answered;
    })
