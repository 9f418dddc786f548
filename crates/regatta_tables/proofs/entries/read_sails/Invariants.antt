use Rattle.std.proofs.Common.{◌≡◌, [], map, take, drop}
use Rattle.csv.specs.Records.{fields_of}
use Rattle.regatta_tables.specs.EntryLists.{first_fault, sails_in}
use Rattle.regatta_tables.proofs.entries.read_sails.Given as goal

-- the rows so far have no fault, and their sails are those that were read
abbrev pub invariant-loop-number : goal.invariant-loop-number
invariant-loop-number l = record {
  sound : first_fault l.column [] (map fields_of l.records)
      ≡ first_fault l.column (take l.number (map fields_of l.records))
      (drop l.number (map fields_of l.records));
  so_far : l.sails.items ≡ sails_in l.column (take l.number (map fields_of l.records));
}
