use Rattle.std.proofs.Common.{◌≡◌, map}
use Rattle.std.specs.List.{range_with_len}
use Rattle.regatta_board.specs.RanksAfter.{ranks_after}
use Rattle.regatta_board.proofs.board.Board.all_ranks.Given as goal

-- the ranks so far
abbrev pub invariant-loop-i : goal.invariant-loop-i
invariant-loop-i l =
    l.all.items ≡ map (ranks_after l.self.rules l.self.entries) (range_with_len 1 l.i)
