use Rattle.std.proofs.Common.{◌≡◌, ◌++◌, take}
use Rattle.std.specs.List.{flat_map}
use Rattle.regatta_times.specs.Printed.{sum_text}
use Rattle.regatta_times.proofs.printing.push_sums.Given as goal

-- the text ends in the sums so far
abbrev pub invariant-loop-timed : goal.invariant-loop-timed
invariant-loop-timed l = l.out.items
    ≡ l.fn.out.items ++ flat_map sum_text (take l.timed-index l.times)
