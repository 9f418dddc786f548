use Rattle.std.proofs.Common.{◌≡◌, ◌+◌, drop}
use Rattle.std.specs.Prelude.{find}
use Rattle.regatta_explain.specs.Separations.{compared_from, differ}
use Rattle.regatta_explain.proofs.separations.first_difference.Given as goal

-- the scores so far don't differ
abbrev pub invariant-loop-i : goal.invariant-loop-i
invariant-loop-i l =
    find differ (compared_from 1 l.first l.second)
    ≡ find differ (compared_from (l.i + 1) (drop l.i l.first) (drop l.i l.second))
