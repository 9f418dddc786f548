use Rattle.std.proofs.Common.{◌≡◌, [], map, drop}
use Rattle.csv.specs.Records.{fields_of}
use Rattle.regatta_times.specs.Ratings.{in_turn}
use Rattle.regatta_times.specs.Sheets.{boat_added}
use Rattle.regatta_times.proofs.sheet.read_rows.Given as goal

-- what the rows still to come give, after those so far, is what all rows give
abbrev pub invariant-loop-number : goal.invariant-loop-number
invariant-loop-number l =
    in_turn (boat_added l.ratings l.overnight l.columns) l.number l.boats.items
    (drop l.number (map fields_of l.records))
    ≡ in_turn (boat_added l.ratings l.overnight l.columns) 0 [] (map fields_of l.records)
