use Rattle.std.proofs.Common.{List, ◌+◌, ◌++◌, ap, sym, ◌∙◌, append-nil, arith}
use Rattle.regatta_terms.specs.Rules.{RulesParts}
use Rattle.regatta_check.specs.EntryRows.{Listing, listing_after, row_kind}
use Rattle.regatta_check.specs.declared.parts.RowFault.{RowFault}
use Rattle.regatta_check.proofs.RowFacts.{rows_end, rows_more}
use Rattle.regatta_check.proofs.entry_rows.take_rows.Goals as goal

-- a row more
pub loop-index-preserved : goal.loop-index-preserved
loop-index-preserved c =
    let series = c.args.ledger.now.rules in
    let before = c.loop-index in
    let row = c.index-rows-index.result in
    let so_far : Listing = record { sails = before.sails.items; journal = before.ledger.entries } in
    let later : Listing = record {
      sails = c.take_row.new.sails.items;
      journal = c.take_row.new.ledger.entries;
    } in
    record {
      rules = c.in_ok-kind.ensures.rules ∙ before.invariant.rules;
      all = rows_more series c.args.goes_on _ before.faults.items c.push_row_fault.new.faults.items
          (before.index + 2) (before.index + 1 + 2) before.index so_far later c.args.rows.now row
          c.in_ok-kind.kind before.invariant.all c.loop-index-test.true c.index-rows-index.is
          (omega arith)
          (c.in_ok-kind.ensures.kind
          ∙ ap (λ (r : RulesParts). row_kind r c.args.goes_on so_far row) before.invariant.rules)
          (c.in_ok-kind.ensures.listing
          ∙ ap (λ (r : RulesParts). listing_after r c.args.goes_on so_far row) before.invariant.rules)
          c.in_ok-push_row_fault.ensures;
    }

pub returns : goal.returns
returns c =
    let end = c.loop-index in
    let listing : Listing = record { sails = end.sails.items; journal = end.ledger.entries } in
    sym (end.invariant.all ∙ ap (λ (t : List RowFault). end.faults.items ++ t)
    (rows_end c.args.ledger.now.rules c.args.goes_on (end.index + 2) end.index listing c.args.rows.now
    c.loop-index-test.false) ∙ append-nil end.faults.items)
