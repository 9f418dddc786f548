use Rattle.std.proofs.Common.{◌≡◌, Some, [], map, drop}
use Rattle.csv.specs.Records.{fields_of}
use Rattle.regatta_times.specs.Ratings.{in_turn, rating_added}
use Rattle.regatta_times.proofs.ratings.read_rows.Given as goal

-- what the rows still to come give, after those so far, is what all rows give
abbrev pub invariant-loop-number : goal.invariant-loop-number
invariant-loop-number l =
    in_turn (rating_added l.system l.sails (Some l.ratings)) l.number l.found.items
    (drop l.number (map fields_of l.records))
    ≡ in_turn (rating_added l.system l.sails (Some l.ratings)) 0 [] (map fields_of l.records)
