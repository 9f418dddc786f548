use Rattle.std.proofs.Common.{inl, rules, subst}
use Rattle.regatta_scores.specs.Journal.{Journal}
use Rattle.regatta_office.specs.Asked.{PrintsAtMostTable, PrintsTable}
use Rattle.regatta_office.proofs.Printing.{keeps_same, of_ok}
use Rattle.regatta_office.proofs.clients.serve_office.Goals as goal

-- nothing was written yet
pub returns-in_err-office-clause-printed : goal.returns-in_err-office-clause-printed
returns-in_err-office-clause-printed g c = record {
  table = search rules;
  at_most = inl (keeps_same (g.W.Device.contents c.args.output.now));
}

pub returns-in_err-made-clause-printed : goal.returns-in_err-made-clause-printed
returns-in_err-made-clause-printed g c = record {
  table = search rules;
  at_most = inl (keeps_same (g.W.Device.contents c.args.output.now));
}

-- the clients were served, and the table was to be printed
pub returns-in-Err-clause-printed : goal.returns-in-Err-clause-printed
returns-in-Err-clause-printed g c = record {
  table = tt;
  at_most = subst (λ (start : Journal). PrintsAtMostTable
      g.N.OfficeName.rules start (g.W.Device.contents c.args.output.now)
      (g.W.Device.contents c.serve_and_print-served.new.output)) c.start_note-start.ensures.journal
      c.serve_and_print-served.ensures.printed.at_most;
}

pub returns-clause-printed : goal.returns-clause-printed
returns-clause-printed g c = record {
  table = tt;
  at_most = subst (λ (start : Journal). PrintsAtMostTable
      g.N.OfficeName.rules start (g.W.Device.contents c.args.output.now)
      (g.W.Device.contents c.serve_and_print-served.new.output)) c.start_note-start.ensures.journal
      c.serve_and_print-served.ensures.printed.at_most;
}

-- the table was printed
pub returns-in-Ok-printed-clause-printed : goal.returns-in-Ok-printed-clause-printed
returns-in-Ok-printed-clause-printed g c = record {
  table = subst (λ (start : Journal). PrintsTable
      g.N.OfficeName.rules start (g.W.Device.contents c.args.output.now)
      (g.W.Device.contents c.serve_and_print-served.new.output)) c.start_note-start.ensures.journal
      (of_ok c.serve_and_print-served.result.printed c.in-Ok-printed.field-0 c.in-Ok-printed.is
      c.serve_and_print-served.ensures.printed.table);
  at_most = subst (λ (start : Journal). PrintsAtMostTable
      g.N.OfficeName.rules start (g.W.Device.contents c.args.output.now)
      (g.W.Device.contents c.serve_and_print-served.new.output)) c.start_note-start.ensures.journal
      c.serve_and_print-served.ensures.printed.at_most;
}
