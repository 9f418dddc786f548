-- The scores of one race: first as if each boat held nothing but a code that gives up her place, then
-- with what she holds.
use Rattle.std.specs.Prelude.{◌≡◌, ℕ, ◌+◌, ◌*◌, ◌<◌, ◌≤◌, All, List, length, nat_eq, is_none, is_some}
use Rattle.std.specs.Prelude.{Option, Some, None, unwrap_or, slice_index_or, if◌then◌else◌}
use Rattle.regatta_terms.specs.Rules.{RulesParts}
use Rattle.regatta_scores.specs.declared.boats.RaceScore.{RaceScore}
use Rattle.regatta_scores.specs.declared.sheet.Held.{Held}
use Rattle.regatta_scores.specs.Journal.{holds_nothing}
use Rattle.regatta_scores.specs.Order.{in_group}
use Rattle.regatta_scores.specs.Outcomes.{score_of}
use Rattle.regatta_scores.specs.PlacedPoints.{most_place_points, placed_points, score_with}
use Rattle.regatta_scores.specs.RacePoints.{race_of}
use Rattle.regatta_scores.specs.RaceScores.{no_score}
use Rattle.regatta_scores.specs.Sheet.{nothing_held}

-- the score of a boat that holds nothing and has these points for a place: those points (A4, A7), or
-- those of DNC (A5)
abbrev pub bare_with : ℕ → Option ℕ → RaceScore
bare_with entered placed =
    score_of
    (record {
      plain = unwrap_or placed (10 * (entered + 1));
      held = nothing_held;
      placed = is_some placed;
    })

-- her points for a place, by the score that she has if she holds nothing: it has no abbreviation if
-- she has a place
abbrev pub points_by : RaceScore → Option ℕ
points_by score = if is_none score.mark then Some score.points else None

-- each boat's score if she holds nothing, by her place, at her number
pub record HasBareScores
    (order : List (List ℕ)) (held : List Held) (scores : List RaceScore) : Type 0 where
  pub one_each : length scores ≡ length held
  pub by_number : (boat : ℕ) → slice_index_or scores boat (bare_with (length held) None)
      ≡ bare_with (length held) (placed_points (race_of order held) boat)
  pub few : All (λ score. unwrap_or (points_by score) 0 ≤ most_place_points) scores

-- each boat of the group has this score now, and every other boat has her old one
pub record PutsScore (old new : List RaceScore) (group : List ℕ) (score : RaceScore) : Type 0 where
  pub one_each : length new ≡ length old
  pub given : (boat : ℕ) (other : RaceScore) → slice_index_or new boat other
      ≡ (if in_group nat_eq boat group then score else slice_index_or old boat other)

-- her score with what she holds, by the one that she has if she holds nothing
abbrev pub rescored : RulesParts → ℕ → ℕ → Held → RaceScore → RaceScore
rescored rules entered dnf held score =
    if holds_nothing held then score else score_with rules held (points_by score) entered dnf

-- each boat has her score with what she holds
pub record IsRescored
    (rules : RulesParts) (dnf : ℕ) (held : List Held) (old new : List RaceScore) : Type 0 where
  pub one_each : length new ≡ length old
  pub each : (boat : ℕ) → boat < length held → slice_index_or new boat no_score
      ≡ rescored rules (length held) dnf (slice_index_or held boat nothing_held)
      (slice_index_or old boat no_score)
