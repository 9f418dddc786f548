use Rattle.std.proofs.Common.{inl, rules}
use Rattle.regatta_office.proofs.Printing.{keeps_same, of_ok, without_kept}
use Rattle.regatta_office.proofs.kept_clients.serve_at.Goals as goal

-- nothing was written yet
pub returns-in_err-all_covered-clause-printed : goal.returns-in_err-all_covered-clause-printed
returns-in_err-all_covered-clause-printed g c = record {
  table = search rules;
  at_most = inl (keeps_same (g.W.Device.contents c.args.output.now));
}

pub returns-in_err-made-clause-printed : goal.returns-in_err-made-clause-printed
returns-in_err-made-clause-printed g c = record {
  table = search rules;
  at_most = inl (keeps_same (g.W.Device.contents c.args.output.now));
}

-- the clients were served, and the table was printed
pub returns-clause-printed : goal.returns-clause-printed
returns-clause-printed g c =
    let served = c.serve_kept_and_print-served in record {
      table = of_ok served.result.printed c.in_ok-served.field-0 c.in_ok-served.was
          (without_kept g.N.OfficeName.rules c.args.start.journal
          (g.W.Device.contents c.args.output.now) (g.W.Device.contents served.new.output)
          served.result.printed served.ensures.printed.table);
      at_most = served.ensures.printed.at_most;
    }
