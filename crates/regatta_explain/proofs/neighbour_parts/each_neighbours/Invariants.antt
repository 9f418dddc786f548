use Rattle.std.proofs.Common.{◌≡◌, ◌-◌, drop, filter, map, nat_eq, take}
use Rattle.std.specs.Prelude.{zip}
use Rattle.regatta_explain.specs.Made.{neighbour_by}
use Rattle.regatta_explain.proofs.neighbour_parts.each_neighbours.Given as goal

-- the neighbours so far
abbrev pub invariant-loop-i : goal.invariant-loop-i
invariant-loop-i l =
    l.parts.items ≡ map (neighbour_by l.races) (filter (λ pair. nat_eq pair.0.net pair.1.net)
    (take (l.i - 1) (zip l.rows (drop 1 l.rows))))
