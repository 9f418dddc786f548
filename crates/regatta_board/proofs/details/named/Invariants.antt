use Rattle.std.proofs.Common.{◌≡◌, map, take}
use Rattle.regatta_board.specs.Details.{boat_at}
use Rattle.regatta_board.proofs.details.named.Given as goal

-- the boats so far
abbrev pub invariant-loop-number : goal.invariant-loop-number
invariant-loop-number l = l.sails.items ≡ map (boat_at l.boats) (take l.number-index l.numbers)
