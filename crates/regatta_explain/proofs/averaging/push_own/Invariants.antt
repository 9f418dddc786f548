use Rattle.std.proofs.Common.{◌≡◌, ◌++◌, take}
use Rattle.std.specs.Prelude.{filter, zip}
use Rattle.regatta_explain.specs.Averaged.{counted_races, has_own}
use Rattle.regatta_explain.proofs.averaging.push_own.Given as goal

-- the races so far
abbrev pub invariant-loop-i : goal.invariant-loop-i
invariant-loop-i l =
    l.counted.items
    ≡ l.initial.counted.items ++ counted_races (filter has_own (take l.i (zip l.races l.scores)))
