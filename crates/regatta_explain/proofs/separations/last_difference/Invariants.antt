use Rattle.std.proofs.Common.{◌≡◌, ◌-◌, length, take}
use Rattle.std.specs.Prelude.{find, zip}
use Rattle.regatta_explain.specs.Separations.{compared_back, compared_in, differ}
use Rattle.regatta_explain.proofs.separations.last_difference.Given as goal

-- the scores from the last race back so far don't differ
abbrev pub invariant-loop-back : goal.invariant-loop-back
invariant-loop-back l =
    find differ (compared_back l.races l.first l.second)
    ≡ find differ (compared_in (take (length l.races - l.back) (zip l.races (zip l.first l.second))))
