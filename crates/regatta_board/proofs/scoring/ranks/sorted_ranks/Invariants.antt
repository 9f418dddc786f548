use Rattle.std.proofs.Common.{◌≡◌, map, take, length, vec_len, vec_capacity}
use Rattle.regatta_board.specs.RanksAfter.{rank_at}
use Rattle.regatta_board.proofs.scoring.ranks.sorted_ranks.Given as goal

-- the ranks so far, and room for the others
abbrev pub invariant-loop-k : goal.invariant-loop-k
invariant-loop-k l = record {
  made : l.ranks.items ≡ map (rank_at l.boats l.places) (take l.k l.order.items);
  long : vec_len l.ranks ≡ l.k;
  room : vec_capacity l.ranks ≡ length l.order.items;
}
