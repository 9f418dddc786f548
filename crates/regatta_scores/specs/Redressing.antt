-- One boat's points with redress, while her scores are read in order of races (RRS A9).
use Rattle.std.specs.Prelude.{◌≡◌, ℕ, ◌+◌, ◌*◌, ◌/◌, ◌<◌, ◌≤◌, Bool, true, false, List, [], ◌∷◌, All}
use Rattle.std.specs.Prelude.{length, map, take, sum_by, if◌then◌else◌, nat_eq, slice_index_or, zip}
use Rattle.std.specs.Prelude.{slice_set}
use Rattle.regatta_scores.specs.declared.boats.Averaged.{Averaged}
use Rattle.regatta_scores.specs.declared.boats.Averaged.TheVariants.{OverNone, OverAll, OverBefore}
use Rattle.regatta_scores.specs.declared.boats.RaceScore.{RaceScore}
use Rattle.regatta_scores.specs.declared.boats.Scored.{Scored}
use Rattle.regatta_scores.specs.declared.redressed.Counted.{Counted}
use Rattle.regatta_scores.specs.Averages.{points as points_of}
use Rattle.regatta_scores.specs.RedressLaws.{counted}

-- whether her points are an average over all other races (A9(a))
abbrev pub is_over_all : Averaged → Bool
is_over_all OverNone = false
is_over_all OverAll = true
is_over_all OverBefore = false

-- the average of `number` points with this sum, to the nearest tenth, 0.05 upward; `plain` if there
-- are none (A9)
abbrev pub average_or : ℕ → ℕ → ℕ → ℕ
average_or plain number sum =
    if nat_eq number 0 then plain else (2 * sum + number) / (2 * number)

-- points, where the average of `number` points with this sum replaces those of some races (A9(a))
abbrev pub averaged_at : ℕ → ℕ → List ℕ → List ℕ → List ℕ
averaged_at number sum points [] = points
averaged_at number sum points (race ∷ races) =
    averaged_at number sum
    (slice_set points race (average_or (slice_index_or points race 0) number sum)) races

-- the first n of these scores are read: the points in them, once the average over all races is put
-- into those that wait for it, and what an average over these n races counts
pub record IsRead (scores : List RaceScore) (n : ℕ) (points over_all : List ℕ) (so_far : Counted) : Type 0 where
  pub made : averaged_at (length (counted scores))
      (sum_by (λ score. score.points) (counted scores)) points over_all ≡ take n (points_of scores)
  pub long : length points ≡ n
  pub within : All (λ race. race < n) over_all
  pub short : length over_all ≤ n
  pub number : so_far.number ≡ length (counted (take n scores))
  pub sum : so_far.sum ≡ sum_by (λ score. score.points) (counted (take n scores))
  pub few : so_far.number ≤ n
  pub small : so_far.sum ≤ 65535 * so_far.number

-- her scores of these points, and whether each is a DNE (90.3(b))
abbrev pub scored_with : List ℕ → List Bool → List Scored
scored_with points dnes =
    map (λ race. record { points = race.0; dne = race.1 }) (zip points dnes)
