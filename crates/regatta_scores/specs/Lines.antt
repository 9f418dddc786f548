-- A boat's line, which is her points and which of them are excluded (RRS A2.1, A9, 90.3(b)), and
-- her row of the table (A2.1, A8, A10).
use Rattle.std.specs.Prelude.{ℕ, List, length, map, zip, Bool}
use Rattle.regatta_terms.specs.Rules.{RulesParts, exclusions_of}
use Rattle.regatta_terms.specs.declared.sail.Sail.{Sail}
use Rattle.regatta_scores.specs.declared.boats.RaceScore.{RaceScore}
use Rattle.regatta_scores.specs.declared.boats.Scored.{Scored}
use Rattle.regatta_scores.specs.Averages.{points}
use Rattle.regatta_scores.specs.Exclusions.{excluded}
use Rattle.regatta_scores.specs.Ranking.{BoatScores, net}
use Rattle.regatta_scores.specs.declared.boats.Place.{Place}
use Rattle.regatta_scores.specs.declared.table.Cell.{Cell}
use Rattle.regatta_scores.specs.declared.table.Row.{Row}

-- her scores for these points, and whether a DNE forbids excluding each (90.3(b))
abbrev pub scored_by : List RaceScore → List ℕ → List Scored
scored_by scores points =
    map (λ race. record { points = race.1; dne = race.0.dne }) (zip scores points)

-- what she is ranked by: her points in each scored race (A9), and which of them are excluded, by
-- the number of scored races (A2.1); a DNE never is (90.3(b))
abbrev pub line_by : RulesParts → List RaceScore → BoatScores
line_by rules scores = record {
  points = points scores;
  excluded = excluded (exclusions_of rules.thresholds (length scores))
      (scored_by scores (points scores));
}

-- the cells of a row, one for each scored race
abbrev pub cells : List RaceScore → List ℕ → List Bool → List Cell
cells scores points flags =
    map (λ race. record { points = race.1.0; mark = race.0.mark; dropped = race.1.1 })
    (zip scores (zip points flags))

-- her row: her place (A8), her series score (A2.1), and a cell for each scored race: her points
-- (A9), the abbreviation (A10), and whether the score is excluded (A2.1)
abbrev pub row_by : Sail → Place → BoatScores → List RaceScore → Row
row_by boat place line scores = record {
  sail = boat;
  rank = place.rank;
  tied = place.tied;
  net = net line;
  cells = cells scores line.points line.excluded;
}
