use Rattle.std.proofs.Common.{◌≡◌, map, take}
use Rattle.regatta_explain.proofs.neighbour_parts.flags_of.Given as goal

-- the flags so far
abbrev pub invariant-loop-cell : goal.invariant-loop-cell
invariant-loop-cell l = l.flags.items ≡ map (λ cell. cell.dropped) (take l.cell-index l.cells)
