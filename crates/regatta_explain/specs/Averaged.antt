-- Which scores an average counts (RRS A9).
use Rattle.std.specs.Prelude.{ℕ, Bool, List, [], ◌∷◌, map, filter, take, remove, sum_by}
use Rattle.std.specs.Prelude.{if◌then◌else◌}
use Rattle.regatta_scores.specs.declared.boats.Averaged.{Averaged}
use Rattle.regatta_scores.specs.declared.boats.Averaged.TheVariants.{OverNone, OverAll, OverBefore}
use Rattle.regatta_scores.specs.declared.boats.RaceScore.{RaceScore}
use Rattle.regatta_scores.specs.Averages.{is_own}

-- whether no average replaces her points in this race
abbrev pub has_own : ℕ × RaceScore → Bool
has_own score = is_own score.1.averaged

-- the scores of these that an average in race i of the list counts: of all other races, or of those
-- before, without those that are an average themselves; none if no average replaces her points there
abbrev pub counted : List (ℕ × RaceScore) → ℕ → Averaged → List (ℕ × RaceScore)
counted scores i OverNone = []
counted scores i OverAll = filter has_own (remove scores i)
counted scores i OverBefore = filter has_own (take i scores)

-- the races that count in it, and the sum of the points there, in tenths
abbrev pub counted_races : List (ℕ × RaceScore) → List ℕ
counted_races scores = map (λ score. score.0) scores

abbrev pub counted_sum : List (ℕ × RaceScore) → ℕ
counted_sum scores = sum_by (λ score. score.1.points) scores

-- the race, if it counts
abbrev pub own_race : ℕ → RaceScore → List ℕ
own_race race score = if is_own score.averaged then race ∷ [] else []
