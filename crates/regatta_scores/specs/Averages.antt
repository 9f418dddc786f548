-- Points with redress (RRS A9), of one boat over the scored races in order.
use Rattle.std.specs.Prelude.{ℕ, ◌+◌, ◌*◌, ◌/◌, Bool, true, false, List, length, map, filter}
use Rattle.std.specs.Prelude.{take, sum_by, remove, nat_eq, if◌then◌else◌}
use Rattle.std.specs.List.{enumerate_from}
use Rattle.regatta_scores.specs.declared.boats.Averaged.{Averaged}
use Rattle.regatta_scores.specs.declared.boats.Averaged.TheVariants.{OverNone, OverAll, OverBefore}
use Rattle.regatta_scores.specs.declared.boats.RaceScore.{RaceScore}

-- whether no average replaces her points (A9)
abbrev pub is_own : Averaged → Bool
is_own OverNone = true
is_own _ = false

-- her average over these races, to the nearest tenth, 0.05 upward; those in which an average
-- replaces her points don't count, and if no race is left, it is her score without redress (A9)
abbrev pub average_over : List RaceScore → ℕ → ℕ
average_over races plain =
    let counted = filter (λ score. is_own score.averaged) races in
    let n = length counted in
    if nat_eq n 0 then plain else (2 * sum_by (λ score. score.points) counted + n) / (2 * n)

-- her points in race i of the list: her own; the average of all other races (A9(a)); the average
-- of those before (A9(b))
abbrev pub redressed : List RaceScore → ℕ → ℕ → Averaged → ℕ
redressed scores i own OverNone = own
redressed scores i own OverAll = average_over (remove scores i) own
redressed scores i own OverBefore = average_over (take i scores) own

-- her points in each scored race, with redress (A9)
abbrev pub points : List RaceScore → List ℕ
points scores =
    map (λ race. redressed scores race.0 race.1.points race.1.averaged) (enumerate_from 0 scores)
