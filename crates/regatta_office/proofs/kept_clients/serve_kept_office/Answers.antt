use Rattle.std.proofs.Common.{inl, rules, subst}
use Rattle.regatta_scores.specs.Journal.{Journal}
use Rattle.regatta_office.specs.Asked.{PrintsAtMostTable, PrintsTable}
use Rattle.regatta_office.proofs.Printing.{keeps_same}
use Rattle.regatta_office.proofs.kept_clients.serve_kept_office.Goals as goal

-- nothing was written yet
pub returns-in_err-office-clause-printed : goal.returns-in_err-office-clause-printed
returns-in_err-office-clause-printed g c = record {
  table = search rules;
  at_most = inl (keeps_same (g.W.Device.contents c.args.output.now));
}

pub returns-in_err-keeper-clause-printed : goal.returns-in_err-keeper-clause-printed
returns-in_err-keeper-clause-printed g c = record {
  table = search rules;
  at_most = inl (keeps_same (g.W.Device.contents c.args.output.now));
}

-- the clients were served, and the table was to be printed
pub returns-in_err-back-clause-printed : goal.returns-in_err-back-clause-printed
returns-in_err-back-clause-printed g c = record {
  table = search rules;
  at_most = subst (λ (start : Journal). PrintsAtMostTable
      g.N.OfficeName.rules start (g.W.Device.contents c.args.output.now)
      (g.W.Device.contents c.serve_at.new.output)) c.start_note-start.ensures.journal
      c.serve_at.ensures.printed.at_most;
}

pub returns-clause-printed : goal.returns-clause-printed
returns-clause-printed g c = record {
  table = subst (λ (start : Journal). PrintsTable
      g.N.OfficeName.rules start (g.W.Device.contents c.args.output.now)
      (g.W.Device.contents c.serve_at.new.output)) c.start_note-start.ensures.journal
      c.in_ok-back.ensures.printed.table;
  at_most = subst (λ (start : Journal). PrintsAtMostTable
      g.N.OfficeName.rules start (g.W.Device.contents c.args.output.now)
      (g.W.Device.contents c.serve_at.new.output)) c.start_note-start.ensures.journal
      c.serve_at.ensures.printed.at_most;
}
