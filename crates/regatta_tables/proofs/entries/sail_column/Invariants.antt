use Rattle.std.proofs.Common.{◌≡◌, ◌<◌, ℕ, List, false, get_or}
use Rattle.csv.specs.Records.{fields_of}
use Rattle.regatta_tables.specs.EntryLists.{is_sail_heading}
use Rattle.regatta_tables.proofs.entries.sail_column.Given as goal

-- no field so far is a heading
abbrev pub invariant-loop-column : goal.invariant-loop-column
invariant-loop-column l = (k : ℕ) (d : List ℕ) → k < l.column
    → is_sail_heading (get_or (fields_of l.header) k d) ≡ false
