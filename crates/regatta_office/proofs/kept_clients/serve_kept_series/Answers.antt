use Rattle.std.proofs.Common.{◌≡◌, ◌∙◌, true, subst, inl, inr}
use Rattle.regatta_terms.specs.Rules.{RulesParts}
use Rattle.regatta_scores.specs.Journal.{Journal}
use Rattle.regatta_board.specs.Refusals.{limits, is_lawful}
use Rattle.regatta_office.specs.Asked.{PrintsTable}
use Rattle.regatta_office.proofs.Printing.{at_most_from, keeps_same}
use Rattle.regatta_office.proofs.kept_clients.serve_kept_series.Goals as goal

pub returns-clause-done : goal.returns-clause-done
returns-clause-done g c =
    let begin = c.in_ok-series.series.begin in
    let old = g.W.Device.contents c.args.output.now in
    let new = g.W.Device.contents c.serve_kept_office.new.output in
    record {
      rules = begin.rules;
      start = begin.start;
      begins = c.in_ok-series.ensures.begins;
      lawful = subst (λ (start : Journal). is_lawful limits begin.rules start ≡ true)
          c.as_slice-start.ensures c.in_ok-opened.ensures.lawful;
      table = subst (λ (start : Journal). PrintsTable begin.rules start old new)
          (c.in_ok-opened.ensures.opened.entries ∙ c.as_slice-start.ensures)
          (subst (λ (rules : RulesParts). PrintsTable rules c.in_ok-opened.opened.entries old new)
          c.in_ok-opened.ensures.opened.rules c.in_ok-serve_kept_office.ensures.printed.table);
    }

-- at most a table of the series, also if it isn't written to the end
pub returns-clause-at_most : goal.returns-clause-at_most
returns-clause-at_most g c =
    let begin = c.in_ok-series.series.begin in
    let old = g.W.Device.contents c.args.output.now in
    let new = g.W.Device.contents c.serve_kept_office.new.output in
    inr (
      begin.rules,
      begin.start,
      c.in_ok-series.ensures.begins,
      at_most_from _ _ _ _ old new c.in_ok-opened.ensures.opened.rules
          (c.in_ok-opened.ensures.opened.entries ∙ c.as_slice-start.ensures)
          c.serve_kept_office.ensures.printed.at_most,
    )

pub returns-in_err-serve_kept_office-clause-at_most :
    goal.returns-in_err-serve_kept_office-clause-at_most
returns-in_err-serve_kept_office-clause-at_most g c =
    let begin = c.in_ok-series.series.begin in
    let old = g.W.Device.contents c.args.output.now in
    let new = g.W.Device.contents c.serve_kept_office.new.output in
    inr (
      begin.rules,
      begin.start,
      c.in_ok-series.ensures.begins,
      at_most_from _ _ _ _ old new c.in_ok-opened.ensures.opened.rules
          (c.in_ok-opened.ensures.opened.entries ∙ c.as_slice-start.ensures)
          c.serve_kept_office.ensures.printed.at_most,
    )

-- nothing was written yet
pub returns-in_err-series-clause-at_most : goal.returns-in_err-series-clause-at_most
returns-in_err-series-clause-at_most g c = inl (keeps_same (g.W.Device.contents c.args.output.now))

pub returns-in_err-history-clause-at_most : goal.returns-in_err-history-clause-at_most
returns-in_err-history-clause-at_most g c = inl (keeps_same (g.W.Device.contents c.args.output.now))

pub returns-in_err-opened-clause-at_most : goal.returns-in_err-opened-clause-at_most
returns-in_err-opened-clause-at_most g c = inl (keeps_same (g.W.Device.contents c.args.output.now))

pub returns-in_err-kept-clause-at_most : goal.returns-in_err-kept-clause-at_most
returns-in_err-kept-clause-at_most g c = inl (keeps_same (g.W.Device.contents c.args.output.now))
