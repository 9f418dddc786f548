-- The scores of the boats on a sheet, by their numbers.
use Rattle.std.specs.Prelude.{◌≡◌, ℕ, false, List, map, nat_eq, None, slice_index_or, true}
use Rattle.std.specs.List.{range_with_len}
use Rattle.regatta_terms.specs.Rules.{RulesParts}
use Rattle.regatta_scores.specs.declared.boats.Averaged.TheVariants.{OverNone}
use Rattle.regatta_scores.specs.declared.boats.RaceScore.{RaceScore}
use Rattle.regatta_scores.specs.Outcomes.{outcome, score_of}
use Rattle.regatta_scores.specs.RacePoints.{race_of}
use Rattle.regatta_scores.specs.Sheet.{Sheet, boats, nothing_held}
use Rattle.regatta_scores.specs.declared.boats.RowItem.{RowItem}
use Rattle.regatta_scores.specs.Averages as averages

-- her score on the sheet
abbrev pub race_score : RulesParts → Sheet → ℕ → RaceScore
race_score rules sheet boat =
    score_of (outcome nat_eq rules (race_of sheet.order sheet.held) boat)

-- the score of each boat on the sheet, in the order of the boats' numbers
abbrev pub race_scores : RulesParts → Sheet → List RaceScore
race_scores rules sheet = map (race_score rules sheet) (range_with_len 0 (boats sheet))

-- the default score; no number of a boat leads to it
abbrev pub no_score : RaceScore
no_score = record { points = 0; averaged = OverNone; dne = false; mark = None }

-- one boat's score in each of these races, from the scores of all boats
abbrev pub scores_in : List (List RaceScore) → ℕ → List RaceScore
scores_in columns boat = map (λ column. slice_index_or column boat no_score) columns

-- a line takes the same of both scores: the points (A2.1), the races of an average (A9), and
-- whether the score may be excluded (90.3(b))
pub record ScoresAs (one other : RaceScore) : Type 0 where
  pub points : one.points ≡ other.points
  pub averaged : one.averaged ≡ other.averaged
  pub dne : one.dne ≡ other.dne

-- the score of a boat that finished, and holds nothing but this redress
abbrev pub item_score : RowItem → RaceScore
item_score item =
    score_of
    (record {
      plain = item.plain;
      held = record nothing_held { redress = item.redress };
      placed = true;
    })

-- one boat's points in each race, with redress (A9)
abbrev pub points : List RowItem → List ℕ
points row = averages.points (map item_score row)
