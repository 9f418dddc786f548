use Rattle.std.proofs.Common.{◌≡◌, ◌∙◌, true, subst, inl, inr}
use Rattle.regatta_terms.specs.Rules.{RulesParts}
use Rattle.regatta_scores.specs.Journal.{Journal}
use Rattle.regatta_board.specs.Refusals.{limits, is_lawful}
use Rattle.regatta_office.specs.Asked.{AtMostFrom, Begins, PrintsTable, ServesFrom}
use Rattle.regatta_office.specs.Asked.{ServingAsked}
use Rattle.regatta_office.proofs.Printing.{at_most_from, keeps_same}
use Rattle.regatta_office.proofs.clients.serve_unkept_series.Goals as goal

pub returns-clause-done : goal.returns-clause-done
returns-clause-done g c =
    let old = g.W.Device.contents c.args.output.now in
    let new = g.W.Device.contents c.serve_office.new.output in
    subst (λ (asked : ServingAsked). ServesFrom (Begins asked.series) old new) c.options.view_is (record {
      rules = c.in_ok-begin.begin.rules;
      start = c.in_ok-begin.begin.start;
      begins = c.in_ok-begin.ensures;
      lawful = subst (λ (start : Journal). is_lawful limits c.in_ok-begin.begin.rules start ≡ true)
          c.as_slice-start.ensures c.in_ok-opened.ensures.lawful;
      table = subst (λ (start : Journal). PrintsTable c.in_ok-begin.begin.rules start old new)
          (c.in_ok-opened.ensures.opened.entries ∙ c.as_slice-start.ensures)
          (subst (λ (rules : RulesParts). PrintsTable rules c.in_ok-opened.opened.entries old new)
          c.in_ok-opened.ensures.opened.rules c.in_ok-serve_office.ensures.printed.table);
    })

-- at most a table of the series, also if it isn't written to the end
pub returns-clause-at_most : goal.returns-clause-at_most
returns-clause-at_most g c =
    let old = g.W.Device.contents c.args.output.now in
    let new = g.W.Device.contents c.serve_office.new.output in
    subst (λ (asked : ServingAsked). AtMostFrom (Begins asked.series) old new) c.options.view_is (inr (
      c.in_ok-begin.begin.rules,
      c.in_ok-begin.begin.start,
      c.in_ok-begin.ensures,
      at_most_from _ _ _ _ old new c.in_ok-opened.ensures.opened.rules
          (c.in_ok-opened.ensures.opened.entries ∙ c.as_slice-start.ensures) c.serve_office.ensures.printed.at_most,
    ))

pub returns-in_err-serve_office-clause-at_most : goal.returns-in_err-serve_office-clause-at_most
returns-in_err-serve_office-clause-at_most g c =
    let old = g.W.Device.contents c.args.output.now in
    let new = g.W.Device.contents c.serve_office.new.output in
    subst (λ (asked : ServingAsked). AtMostFrom (Begins asked.series) old new) c.options.view_is (inr (
      c.in_ok-begin.begin.rules,
      c.in_ok-begin.begin.start,
      c.in_ok-begin.ensures,
      at_most_from _ _ _ _ old new c.in_ok-opened.ensures.opened.rules
          (c.in_ok-opened.ensures.opened.entries ∙ c.as_slice-start.ensures) c.serve_office.ensures.printed.at_most,
    ))

-- nothing was written yet
pub returns-in_err-begin-clause-at_most : goal.returns-in_err-begin-clause-at_most
returns-in_err-begin-clause-at_most g c = inl (keeps_same (g.W.Device.contents c.args.output.now))

pub returns-in_err-opened-clause-at_most : goal.returns-in_err-opened-clause-at_most
returns-in_err-opened-clause-at_most g c = inl (keeps_same (g.W.Device.contents c.args.output.now))
