-- The standing from sheets, with boats and races by their numbers.
use Rattle.std.specs.Prelude.{◌≡◌, ℕ, ◌-◌, ◌≤◌, Bool, false, List, [], length, map, filter}
use Rattle.std.specs.Prelude.{slice_index_or, All, nat_lt, not, ◌&&◌, ◌∷◌, if◌then◌else◌}
use Rattle.std.specs.Cmp.Lexicographic.{slice_cmp}
use Rattle.std.specs.Ordering.{nat_cmp, ordering_then, is_le}
use Rattle.std.specs.declared.cmp.Ordering.{Ordering}
use Rattle.std.specs.List.{range_with_len}
use Rattle.regatta_terms.specs.Rules.{RulesParts}
use Rattle.regatta_terms.specs.declared.sail.Sail.{Sail}
use Rattle.regatta_terms.specs.declared.limits.TheConstants.{MAX_RACES}
use Rattle.regatta_scores.specs.declared.boats.Place.{Place}
use Rattle.regatta_scores.specs.declared.table.Row.{Row}
use Rattle.regatta_scores.specs.declared.table.Standing.{Standing}
use Rattle.regatta_scores.specs.Sheet.{Sheet, boats, empty_sheet}
use Rattle.regatta_scores.specs.Lines.{line_by}
use Rattle.regatta_scores.specs.RaceScores.{race_scores, scores_in}
use Rattle.regatta_scores.specs.Ranking.{BoatScores, place}
use Rattle.regatta_scores.specs.Lines.{row_by}
use Rattle.regatta_scores.specs.Standing as standings
pub use Rattle.regatta_scores.specs.Entrants.{no_line}
use Rattle.regatta_scores.specs.declared.boats.RaceScore.{RaceScore}
use Rattle.regatta_board.specs.Refusals.{limits}

-- what is kept of a journal: the boats entered, each race's sheet, and whether it counts
pub record Kept : Type 0 where
  pub sails : List Sail
  pub sheets : List Sheet
  pub counts : List Bool

-- there is a sheet for each race, no more boats than may be entered, and each sheet has them all
pub record IsKept (kept : Kept) : Type 0 where
  pub few : length kept.sails ≤ limits.boats
  pub sheets : length kept.sheets ≡ MAX_RACES
  pub counts : length kept.counts ≡ MAX_RACES
  pub same : All (λ sheet. boats sheet ≡ length kept.sails) kept.sheets

-- a column: the scores of all boats in one race, by the boats' numbers
abbrev pub column : RulesParts → Sheet → List RaceScore
column rules sheet = race_scores rules sheet

-- the races that count
abbrev pub races : List Bool → List ℕ
races counts = filter (λ race. slice_index_or counts (race - 1) false) (range_with_len 1 MAX_RACES)

-- the column of each of these races, in their order
abbrev pub columns : RulesParts → List Sheet → List ℕ → List (List RaceScore)
columns rules sheets races =
    map (λ race. column rules (slice_index_or sheets (race - 1) (empty_sheet 0))) races

-- the lines of all boats: their points, and which of them are excluded (RRS A2.1)
abbrev pub lines : RulesParts → List (List RaceScore) → ℕ → List BoatScores
lines rules columns n = map (λ boat. line_by rules (scores_in columns boat)) (range_with_len 0 n)

-- a boat's row of the table, with her rank among all the lines (RRS A8)
abbrev pub row_of : RulesParts → List Sail → List (List RaceScore) → ℕ → Row
row_of rules sails columns boat =
    let line = line_by rules (scores_in columns boat) in
    row_by (slice_index_or sails boat []) (place (lines rules columns (length sails)) line) line
    (scores_in columns boat)

-- the rows of all boats, in the order of the table (RRS A8)
abbrev pub rows : RulesParts → List Sail → List (List RaceScore) → List Row
rows rules sails columns =
    standings.sorted_rows (map (row_of rules sails columns) (range_with_len 0 (length sails)))

-- the default rank; no number of a boat leads to it
abbrev pub no_rank : Place
no_rank = record { rank = 0; tied = false }

-- a boat's row from the lines and ranks of all boats, which are computed once (RRS A8)
abbrev pub row_at : List Sail → List (List RaceScore) → List BoatScores → List Place → ℕ → Row
row_at sails columns lines ranks boat =
    row_by (slice_index_or sails boat []) (slice_index_or ranks boat no_rank)
    (slice_index_or lines boat no_line) (scores_in columns boat)

-- the order of boats in the table: by rank (RRS A8), then by sail, and equal sails by number
abbrev pub table_cmp : List Sail → List Place → ℕ → ℕ → Ordering
table_cmp sails ranks a b =
    ordering_then
    (nat_cmp (slice_index_or ranks a no_rank).rank (slice_index_or ranks b no_rank).rank)
    (ordering_then (slice_cmp nat_cmp (slice_index_or sails a []) (slice_index_or sails b []))
    (nat_cmp a b))

-- whether a boat comes no later in the table than another
abbrev pub comes_first : List Sail → List Place → ℕ → ℕ → Bool
comes_first sails ranks a b = is_le (table_cmp sails ranks a b)

-- whether there is a boat with the number `other`, and she comes before `boat` in the table
abbrev pub is_before : List Sail → List Place → ℕ → ℕ → Bool
is_before sails ranks boat other =
    nat_lt other (length ranks) && not (comes_first sails ranks boat other)

-- a boat inserted into others in the order of the table, before the first that she isn't after
abbrev pub with_boat : List Sail → List Place → ℕ → List ℕ → List ℕ
with_boat sails ranks boat [] = boat ∷ []
with_boat sails ranks boat (x ∷ xs) =
    if comes_first sails ranks boat x then boat ∷ x ∷ xs else x ∷ with_boat sails ranks boat xs

-- boats in the order of the table
abbrev pub in_order : List Sail → List Place → List ℕ → List ℕ
in_order sails ranks [] = []
in_order sails ranks (x ∷ xs) = with_boat sails ranks x (in_order sails ranks xs)

-- the rows of all boats from their lines and ranks, in the order of the table (RRS A8)
abbrev pub rows_by : List Sail → List (List RaceScore) → List BoatScores → List Place → List Row
rows_by sails columns lines ranks =
    standings.sorted_rows (map (row_at sails columns lines ranks) (range_with_len 0 (length sails)))

-- the standing by what is kept: the races that count, and a row for each boat (RRS A2.2)
abbrev pub table : RulesParts → Kept → Standing
table rules kept =
    let cols = columns rules kept.sheets (races kept.counts) in
    record { races = races kept.counts; rows = rows rules kept.sails cols }
