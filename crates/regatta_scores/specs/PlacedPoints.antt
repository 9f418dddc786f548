-- The points for finishing places, for each boat of a sheet by her number.
use Rattle.std.specs.Prelude.{◌≡◌, ℕ, ◌+◌, ◌*◌, ◌≤◌, Bool, List, length, count_by}
use Rattle.std.specs.Prelude.{Option, Some, None, is_none, is_some, unwrap_or, nat_eq}
use Rattle.std.specs.Prelude.{slice_index_or, min, max, if◌then◌else◌}
use Rattle.std.specs.List.{range_with_len}
use Rattle.regatta_terms.specs.declared.limits.TheConstants.{MAX_BOATS}
use Rattle.regatta_terms.specs.Rules.{RulesParts}
use Rattle.regatta_scores.specs.declared.boats.RaceScore.{RaceScore}
use Rattle.regatta_scores.specs.declared.sheet.Held.{Held}
use Rattle.regatta_scores.specs.Order.{in_group, stands_in}
use Rattle.regatta_scores.specs.Outcomes.{score_of}
use Rattle.regatta_scores.specs.Sheet.{nothing_held}
use Rattle.regatta_scores.specs.RacePoints.{Race, race_of, status_by, came, place_points, dnf_by}
use Rattle.regatta_scores.specs.RacePoints.{base_by, penalty_points}

-- the most points for a place, in tenths: those of the place after all boats, shared by all
abbrev pub most_place_points : ℕ
most_place_points = 10 * (MAX_BOATS + 1) + 5 * MAX_BOATS

-- the points for her finishing place, or none if she isn't in the order (A4, A7)
abbrev pub placed_points : Race ℕ → ℕ → Option ℕ
placed_points race boat =
    if stands_in nat_eq boat race.order then Some (place_points nat_eq race boat) else None

-- the list has the points of each boat of the sheet, at her number
pub record HasPlacedPoints
    (order : List (List ℕ)) (held : List Held) (points : List (Option ℕ)) : Type 0 where
  pub one_each : length points ≡ length held
  pub by_number : (boat : ℕ) →
      slice_index_or points boat None ≡ placed_points (race_of order held) boat
  pub few : (boat : ℕ) → unwrap_or (slice_index_or points boat None) 0 ≤ most_place_points

-- each boat of the group has these points now, and every other boat has her old ones (A7)
pub record GivesPoints (old new : List (Option ℕ)) (group : List ℕ) (points : ℕ) : Type 0 where
  pub one_each : length new ≡ length old
  pub given : (boat : ℕ) → slice_index_or new boat None
      ≡ (if in_group nat_eq boat group then Some points else slice_index_or old boat None)

-- the number of boats of the group that finished; boats with a code don't count (A6.1)
abbrev pub number_finished : List Held → List ℕ → ℕ
number_finished held group =
    count_by (λ boat. is_none (slice_index_or held boat nothing_held).code) group

-- whether a boat that holds this and has these points for a place came to the starting area (A5.3)
abbrev pub came_with : Held → Option ℕ → Bool
came_with held placed = came (status_by held.code (is_some placed))

-- how many came to the starting area, by what each boat holds and her points for a place (A5.3)
abbrev pub number_came_with : List Held → List (Option ℕ) → ℕ
number_came_with held placed =
    count_by
    (λ boat. came_with (slice_index_or held boat nothing_held) (slice_index_or placed boat None))
    (range_with_len 0 (length held))

-- the race's DNF score in whole points (A5.2, A5.3)
abbrev pub dnf_with : RulesParts → List Held → List (Option ℕ) → ℕ
dnf_with rules held placed = dnf_by rules.absent (length held) (number_came_with held placed)

-- the score before redress of a boat that holds this and has these points for a place: for her
-- place or her code (A4, A5, A7), made worse by penalties (30.2, 44.3(c))
abbrev pub plain_with : RulesParts → Held → Option ℕ → ℕ → ℕ → ℕ
plain_with rules held placed entered dnf =
    let base = base_by (status_by held.code (is_some placed)) (unwrap_or placed 0) entered dnf in
    max base (min (base + 10 * penalty_points rules dnf held) (10 * dnf))

-- her score in the race
abbrev pub score_with : RulesParts → Held → Option ℕ → ℕ → ℕ → RaceScore
score_with rules held placed entered dnf =
    score_of
    (record {
      plain = plain_with rules held placed entered dnf;
      held = held;
      placed = is_some placed;
    })
