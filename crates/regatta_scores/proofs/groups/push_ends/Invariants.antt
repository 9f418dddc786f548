use Rattle.std.proofs.Common.{◌≡◌, ◌++◌, map, take}
use Rattle.regatta_scores.specs.Groups.{moved_end}
use Rattle.regatta_scores.proofs.groups.push_ends.Given as goal

-- the ends so far
abbrev pub invariant-loop-end : goal.invariant-loop-end
invariant-loop-end l =
    l.ends.items ≡ l.initial.ends.items ++ map (moved_end l.begin l.ahead) (take l.end-index l.rest)
