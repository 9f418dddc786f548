use Rattle.std.proofs.Common.{◌≡◌, map, take}
use Rattle.regatta_explain.specs.Explained.{boat_rows}
use Rattle.regatta_explain.proofs.boat_parts.each_boat.Given as goal

-- the boats so far
abbrev pub invariant-loop-row : goal.invariant-loop-row
invariant-loop-row l =
    l.boats.items ≡ map (boat_rows l.board.rules l.board.entries) (take l.row-index l.rows)
