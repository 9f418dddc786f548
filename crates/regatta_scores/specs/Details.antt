-- What a race is scored by, its groups with their places, and each boat's score in its parts.
use Rattle.std.specs.Prelude.{ℕ, ◌+◌, ◌*◌, ◌/◌, Bool, List, length, map, take, count_by, sum_by}
use Rattle.std.specs.Prelude.{Option, Some, None, is_some, unwrap_or}
use Rattle.std.specs.List.{enumerate_from}
use Rattle.regatta_terms.specs.Rules.{RulesParts}
use Rattle.regatta_terms.specs.declared.command.Code.{Code}
use Rattle.regatta_scores.specs.declared.details.RaceBasis.{RaceBasis}
use Rattle.regatta_scores.specs.declared.details.Scoring.{Scoring}
use Rattle.regatta_scores.specs.declared.details.SheetGroup.{SheetGroup}
use Rattle.regatta_scores.specs.declared.sheet.Held.{Held}
use Rattle.regatta_scores.specs.Outcomes.{outcome, score_of}
use Rattle.regatta_scores.specs.PlacedPoints.{came_with, plain_with, score_with}
use Rattle.regatta_scores.specs.RacePoints.{Race, Status, Finished, Coded, finishers, status, status_by}
use Rattle.regatta_scores.specs.RacePoints.{came, dnf, place_points, base_by, penalty_points, plain}

-- a group of the finishing order: its boats, how many of them finished and share its place (A7), and
-- that place, which is one more than the number of boats that finished in the groups ahead (A4, A6.1)
pub record PlacedGroup (B : Type 0) : Type 0 where
  pub place : ℕ
  pub sharing : ℕ
  pub boats : List B

-- a group of the race, by its position from 0
abbrev pub placed_group : {B : Type 0} → Race B → ℕ × List B → PlacedGroup B
placed_group race group = record {
  place = 1 + sum_by (finishers race) (take group.0 race.order);
  sharing = finishers race group.1;
  boats = group.1;
}

-- the groups of the race in order
abbrev pub placed_groups : {B : Type 0} → Race B → List (PlacedGroup B)
placed_groups race = map (placed_group race) (enumerate_from 0 race.order)

-- a group of boats by their numbers, as code has it
abbrev pub sheet_group : PlacedGroup ℕ → SheetGroup
sheet_group group =
    record { place = group.place; sharing = group.sharing; boats = group.boats }

-- 20% of a DNF score in whole points, to the nearest, 0.5 upward (44.3(c))
abbrev pub twenty_percent_of : ℕ → ℕ
twenty_percent_of dnf = (2 * dnf + 5) / 10

-- the code by which a boat of this status is scored, if she didn't finish
abbrev pub status_code : Status → Option Code
status_code Finished = None
status_code (Coded code) = Some code

module _ {B : Type 0} (same : B → B → Bool) where
  -- how many boats came to the starting area (A5.3)
  abbrev pub number_came : Race B → ℕ
  number_came race = count_by (λ boat. came (status same race boat)) race.entered

  -- a boat's score for her place or her code, without penalties (A4 to A7)
  abbrev pub base : RulesParts → Race B → B → ℕ
  base rules race boat =
      base_by (status same race boat) (place_points same race boat) (length race.entered)
      (dnf same rules race)

  -- what the race is scored by: how many boats are entered, how many came (A5.3), the DNF score
  -- (A5.2, A5.3), and 20% of it (44.3(c))
  abbrev pub race_basis : RulesParts → Race B → RaceBasis
  race_basis rules race = record {
    entered = length race.entered;
    came = number_came race;
    dnf = dnf same rules race;
    twenty_percent = twenty_percent_of (dnf same rules race);
  }

  -- her score in the race, in its parts: how she is scored, whether she came, what she holds; her
  -- score without penalties, what they add, and her score with them (A4 to A7, 30.2, 44.3(c)); and
  -- that with points given as redress (A9(c)), before averages
  abbrev pub scoring : RulesParts → Race B → B → Scoring
  scoring rules race boat = record {
    status = status_code (status same race boat);
    came = came (status same race boat);
    held = race.held boat;
    base = base rules race boat;
    penalty = penalty_points rules (dnf same rules race) (race.held boat);
    plain = plain same rules race boat;
    score = score_of (outcome same rules race boat);
  }

-- the same of a boat that holds this and has these points for a place
abbrev pub scoring_with : RulesParts → Held → Option ℕ → ℕ → ℕ → Scoring
scoring_with rules held placed entered dnf = record {
  status = status_code (status_by held.code (is_some placed));
  came = came_with held placed;
  held = held;
  base = base_by (status_by held.code (is_some placed)) (unwrap_or placed 0) entered dnf;
  penalty = penalty_points rules dnf held;
  plain = plain_with rules held placed entered dnf;
  score = score_with rules held placed entered dnf;
}
