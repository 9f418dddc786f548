use Rattle.std.proofs.Common.{◌≡◌, map, take}
use Rattle.regatta_explain.proofs.neighbour_parts.points_of.Given as goal

-- the points so far
abbrev pub invariant-loop-cell : goal.invariant-loop-cell
invariant-loop-cell l = l.points.items ≡ map (λ cell. cell.points) (take l.cell-index l.cells)
