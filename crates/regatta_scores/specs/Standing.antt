-- The standing of a series: Appendix A of the racing rules, applied to the journal.
use Rattle.std.specs.Prelude.{List, [], ◌∷◌, map, if◌then◌else◌}
use Rattle.std.specs.Ordering.{nat_cmp, ordering_then, is_le}
use Rattle.std.specs.Cmp.Lexicographic.{slice_cmp}
use Rattle.regatta_terms.specs.Rules.{RulesParts}
use Rattle.regatta_terms.specs.declared.sail.Sail.{Sail}
use Rattle.regatta_scores.specs.declared.table.Row.{Row}
use Rattle.regatta_scores.specs.declared.table.Standing.{Standing}
use Rattle.regatta_scores.specs.Journal.{Journal, entered, scored}
use Rattle.regatta_scores.specs.Lines.{line_by, row_by}
use Rattle.regatta_scores.specs.Outcomes.{scores}
use Rattle.regatta_scores.specs.Ranking.{BoatScores, place}

-- a boat's line by the journal (A8)
abbrev pub line : RulesParts → Journal → Sail → BoatScores
line rules journal boat = line_by rules (scores rules journal boat)

-- her row, with her place among these boats (A8)
abbrev pub row : RulesParts → Journal → List BoatScores → Sail → Row
row rules journal lines boat =
    let hers = line rules journal boat in
    row_by boat (place lines hers) hers (scores rules journal boat)

-- a row inserted into sorted ones, before the first that it precedes or equals: by rank (A8), then
-- by sail
abbrev pub with_row : Row → List Row → List Row
with_row r [] = r ∷ []
with_row r (x ∷ xs) =
    let compared = ordering_then (nat_cmp r.rank x.rank) (slice_cmp nat_cmp r.sail x.sail) in
    if is_le compared then r ∷ x ∷ xs else x ∷ with_row r xs

-- the rows in the order of the standing: by rank (A8), then by sail
abbrev pub sorted_rows : List Row → List Row
sorted_rows [] = []
sorted_rows (x ∷ xs) = with_row x (sorted_rows xs)

-- the standing: the scored races, and one row for each boat entered, with her place among them all
-- (A2.2)
abbrev pub standing : RulesParts → Journal → Standing
standing rules journal =
    let lines = map (line rules journal) (entered journal) in
    let rows = map (row rules journal lines) (entered journal) in
    record { races = scored journal; rows = sorted_rows rows }
