use Rattle.std.proofs.Common.{◌≡◌, ◌++◌, take}
use Rattle.regatta_times.specs.Printed.{lines_text}
use Rattle.regatta_times.proofs.printing.write_lines.Given as goal

-- the text ends in the lines so far
abbrev pub invariant-loop-timed : goal.invariant-loop-timed
invariant-loop-timed l = l.out.items
    ≡ l.fn.out.items ++ lines_text l.race (take l.timed-index l.times)
