-- Laws of excluded scores and of the series score (RRS A2.1, A8.1, 90.3(b)).
use Rattle.std.specs.Prelude.{◌≡◌, ℕ, ◌≤◌, Bool, true, false, List, length, map, count_by, slice_get}
use Rattle.std.specs.Prelude.{Some, IsPermutation}
use Rattle.regatta_scores.specs.declared.boats.Scored.{Scored}
use Rattle.regatta_scores.specs.Exclusions.{counting, excluded, net}
use Rattle.regatta_scores.specs.Ranking.{BoatScores, best_to_worst}

-- a choice of scores to exclude that the rules permit, with d exclusions: at most d, and no DNE
pub record IsPermitted (d : ℕ) (scores : List Scored) (flags : List Bool) : Type 0 where
  pub one_for_each : length flags ≡ length scores
  pub few : count_by (λ flag. flag) flags ≤ d
  pub no_dne : (i : ℕ) (s : Scored) → slice_get scores i ≡ Some s → s.dne ≡ true →
      slice_get flags i ≡ Some false

-- No permitted choice gives a lower series score (A2.1, 90.3(b)).
abbrev pub NoChoiceIsBetter : Type 0
NoChoiceIsBetter = (d : ℕ) (scores : List Scored) (flags : List Bool) → IsPermitted d scores flags →
    net (map (λ s. s.points) scores) (excluded d scores) ≤ net (map (λ s. s.points) scores) flags

-- The series score has each DNE in it (90.3(b)).
abbrev pub DnesCount : Type 0
DnesCount = (d : ℕ) (scores : List Scored) (i : ℕ) (s : Scored) → slice_get scores i ≡ Some s →
    s.dne ≡ true → s.points ≤ net (map (λ s. s.points) scores) (excluded d scores)

-- Two boats whose counting scores are the same have the same list from best to worst, whatever the
-- races and whatever was excluded (A8.1).
abbrev pub ExcludedArentUsed : Type 0
ExcludedArentUsed = (a b : BoatScores) →
    IsPermutation (counting a.points a.excluded) (counting b.points b.excluded) →
    best_to_worst a ≡ best_to_worst b
