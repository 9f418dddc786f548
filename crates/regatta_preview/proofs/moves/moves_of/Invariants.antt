use Rattle.std.proofs.Common.{◌≡◌, filter, map, take}
use Rattle.regatta_preview.specs.Moves.{has_moved, move_since}
use Rattle.regatta_preview.proofs.moves.moves_of.Given as goal

-- the boats so far
abbrev pub invariant-loop-row : goal.invariant-loop-row
invariant-loop-row l = l.moves.items ≡ filter has_moved
    (map (move_since l.first.rules l.first.entries) (take l.row-index l.rows))
