use Rattle.std.proofs.Common.{◌≡◌, map, take}
use Rattle.regatta_explain.specs.Made.{group_by}
use Rattle.regatta_explain.proofs.race_parts.group_parts.Given as goal

-- the groups so far
abbrev pub invariant-loop-group : goal.invariant-loop-group
invariant-loop-group l = l.parts.items ≡ map group_by (take l.group-index l.groups)
