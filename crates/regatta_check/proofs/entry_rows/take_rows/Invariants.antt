use Rattle.std.proofs.Common.{◌≡◌, ◌+◌, ◌++◌, [], drop}
use Rattle.regatta_check.specs.EntryRows.{row_faults}
use Rattle.regatta_check.proofs.entry_rows.take_rows.Given as goal

-- the faults so far, with those of the rows that are left
abbrev pub invariant-loop-index : goal.invariant-loop-index
invariant-loop-index l = record {
  rules : l.ledger.rules ≡ l.fn.ledger.rules;
  all : row_faults l.fn.ledger.rules l.goes_on 2
      (record { sails = []; journal = l.fn.ledger.entries }) l.rows
      ≡ l.faults.items ++ row_faults l.fn.ledger.rules l.goes_on (l.index + 2)
      (record { sails = l.sails.items; journal = l.ledger.entries }) (drop l.index l.rows);
}
