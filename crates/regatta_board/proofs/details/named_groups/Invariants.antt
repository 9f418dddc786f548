use Rattle.std.proofs.Common.{◌≡◌, map, take}
use Rattle.regatta_board.specs.Details.{named_group}
use Rattle.regatta_board.proofs.details.named_groups.Given as goal

-- the groups so far
abbrev pub invariant-loop-group : goal.invariant-loop-group
invariant-loop-group l = l.found.items ≡ map (named_group l.boats) (take l.group-index l.groups)
