use Rattle.std.proofs.Common.{◌≡◌, [], drop}
use Rattle.regatta_times.specs.Timings.{timed_after}
use Rattle.regatta_times.proofs.timing.times_with.Given as goal

-- the times of the boats to come, after those so far, are those of all
abbrev pub invariant-loop-boat : goal.invariant-loop-boat
invariant-loop-boat l =
    timed_after l.rounding l.most l.times.items (drop l.boat-index l.boats)
    ≡ timed_after l.rounding l.most [] l.boats
