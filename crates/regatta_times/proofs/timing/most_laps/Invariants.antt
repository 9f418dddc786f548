use Rattle.std.proofs.Common.{◌≡◌, drop}
use Rattle.regatta_times.specs.Timings.{most_laps}
use Rattle.regatta_times.proofs.timing.most_laps.Given as goal

-- the most of the boats so far, and of those to come, is the most of all
abbrev pub invariant-loop-boat : goal.invariant-loop-boat
invariant-loop-boat l = most_laps l.most (drop l.boat-index l.boats) ≡ most_laps 0 l.boats
