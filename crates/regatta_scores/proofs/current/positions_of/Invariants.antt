use Rattle.std.proofs.Common.{◌≡◌, drop, length, replicate}
use Rattle.regatta_scores.specs.Current.{with_positions}
use Rattle.regatta_scores.proofs.current.positions_of.Given as goal

-- with the positions to come, those so far are those after all of them
abbrev pub invariant-loop-k : goal.invariant-loop-k
invariant-loop-k l = record {
  many : length l.positions.items ≡ l.boats;
  rest : with_positions l.positions.items l.k (drop l.k l.new)
      ≡ with_positions (replicate l.boats 65535) 0 l.new;
}
