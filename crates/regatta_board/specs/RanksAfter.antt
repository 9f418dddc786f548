-- The boats' ranks after each race that counts, by the races up to it.
use Rattle.std.specs.Prelude.{ℕ, List, [], length, map, take, slice_index_or}
use Rattle.std.specs.List.{range_with_len}
use Rattle.regatta_terms.specs.Rules.{RulesParts}
use Rattle.regatta_terms.specs.declared.sail.Sail.{Sail}
use Rattle.regatta_scores.specs.declared.boats.Place.{Place}
use Rattle.regatta_scores.specs.declared.boats.RaceScore.{RaceScore}
use Rattle.regatta_scores.specs.declared.table.Row.{Row}
use Rattle.regatta_scores.specs.Journal.{Journal, same_sail, entered, scored}
use Rattle.regatta_scores.specs.Lines.{line_by, row_by}
use Rattle.regatta_scores.specs.Outcomes.{outcome, score_of}
use Rattle.regatta_scores.specs.RacePoints.{journal_race}
use Rattle.regatta_scores.specs.Ranking.{BoatScores, place}
use Rattle.regatta_scores.specs.Standing.{sorted_rows}
use Rattle.regatta_board.specs.Table.{no_rank}
use Rattle.regatta_board.specs.declared.ranks.BoatRank.{BoatRank}

-- a boat's rank, by her row of a table
abbrev pub boat_rank : Row → BoatRank
boat_rank row = record { sail = row.sail; rank = row.rank; tied = row.tied }

-- the same by her number, from the entry list and all boats' places
abbrev pub rank_at : List Sail → List Place → ℕ → BoatRank
rank_at sails places boat = record {
  sail = slice_index_or sails boat [];
  rank = (slice_index_or places boat no_rank).rank;
  tied = (slice_index_or places boat no_rank).tied;
}

module _ (rules : RulesParts) (journal : Journal) (races : List ℕ) where
  -- a boat's score in each of these races, before averages
  abbrev pub scores_over : Sail → List RaceScore
  scores_over boat =
      map (λ race. score_of (outcome same_sail rules (journal_race rules journal race) boat)) races

  -- her line, if these are the races that count (A2.1, A9)
  abbrev pub line_over : Sail → BoatScores
  line_over boat = line_by rules (scores_over boat)

  -- her row among these lines (A8)
  abbrev pub row_over : List BoatScores → Sail → Row
  row_over lines boat =
      row_by boat (place lines (line_over boat)) (line_over boat) (scores_over boat)

  -- the rows of the table, if these are the races that count (A2.2)
  abbrev pub rows_over : List Row
  rows_over = sorted_rows (map (row_over (map line_over (entered journal))) (entered journal))

-- the ranks after the first races that count, as many as given
abbrev pub ranks_after : RulesParts → Journal → ℕ → List BoatRank
ranks_after rules journal many =
    map boat_rank (rows_over rules journal (take many (scored journal)))

-- the ranks after each race that counts
abbrev pub ranks_after_each : RulesParts → Journal → List (List BoatRank)
ranks_after_each rules journal =
    map (ranks_after rules journal) (range_with_len 1 (length (scored journal)))
