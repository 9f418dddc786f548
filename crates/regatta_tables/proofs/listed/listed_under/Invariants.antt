use Rattle.std.proofs.Common.{◌≡◌, map, take}
use Rattle.csv.specs.Records.{fields_of}
use Rattle.regatta_tables.specs.ListedRows.{listed_in}
use Rattle.regatta_tables.proofs.listed.listed_under.Given as goal

-- what the records so far name
abbrev pub invariant-loop-record : goal.invariant-loop-record
invariant-loop-record l =
    l.rows.items ≡ map (listed_in l.column) (map fields_of (take l.record-index l.records))
