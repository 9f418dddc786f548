-- Which rule separates two boats of one series score (RRS A8.1, A8.2).
use Rattle.std.specs.Prelude.{ℕ, Bool, not, nat_eq, List, map, zip, reverse, find, Option, Some, None}
use Rattle.std.specs.Prelude.{if◌then◌else◌}
use Rattle.std.specs.List.{enumerate_from}
use Rattle.regatta_scores.specs.Ranking.{BoatScores, best_to_worst}
use Rattle.regatta_explain.specs.declared.parts.Compared.{Compared}
use Rattle.regatta_explain.specs.declared.parts.Separation.{Separation}
use Rattle.regatta_explain.specs.declared.parts.Separation.TheVariants.{ByBest, ByLast, ByNothing}

-- whether the two scores differ
abbrev pub differ : Compared → Bool
differ compared = not (nat_eq compared.first compared.second)

-- two scores and their place, if they differ
abbrev pub unlike : ℕ → ℕ → ℕ → Option Compared
unlike at first second =
    if nat_eq first second then None else Some (record { at = at; first = first; second = second })

-- the scores at each position, counted from this one
abbrev pub compared_from : ℕ → List ℕ → List ℕ → List Compared
compared_from position a b =
    map (λ at. record { at = at.0; first = at.1.0; second = at.1.1 })
    (enumerate_from position (zip a b))

-- scores in races, from the last of these back
abbrev pub compared_in : List (ℕ × (ℕ × ℕ)) → List Compared
compared_in races =
    map (λ race. record { at = race.0; first = race.1.0; second = race.1.1 }) (reverse races)

-- the scores in each race, from the last race back
abbrev pub compared_back : List ℕ → List ℕ → List ℕ → List Compared
compared_back races a b = compared_in (zip races (zip a b))

-- the first difference from best to worst, else the first from the last race back
abbrev pub separation_by : Option Compared → Option Compared → Separation
separation_by (Some best) last = ByBest best
separation_by None (Some last) = ByLast last
separation_by None None = ByNothing

-- what separates two boats with the same series score, in these races: the first difference of the
-- scores that count from best to worst (A8.1), or else of all scores from the last race back (A8.2)
abbrev pub separation : List ℕ → BoatScores → BoatScores → Separation
separation races a b =
    separation_by (find differ (compared_from 1 (best_to_worst a) (best_to_worst b)))
    (find differ (compared_back races a.points b.points))
