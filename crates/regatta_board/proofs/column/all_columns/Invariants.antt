use Rattle.std.proofs.Common.{◌≡◌, ℕ, ◌+◌, ◌-◌, ◌<◌, ◌≤◌, false, [], filter, get_or, length}
use Rattle.std.specs.List.{range_with_len}
use Rattle.regatta_board.specs.Scoring.{column_at}
use Rattle.regatta_board.proofs.column.all_columns.Given as goal

-- the races so far
abbrev pub invariant-loop-k : goal.invariant-loop-k
invariant-loop-k l = record {
  are : (n : ℕ) → n < l.k → get_or l.columns.items n [] ≡ column_at l.rules l.sheets l.counts n;
  long : length l.columns.items ≡ l.k;
  work : l.work ≡ l.initial.work + length (filter (λ race. get_or l.counts (race - 1) false)
      (range_with_len 1 l.k));
  few : l.work ≤ l.initial.work + l.k;
}
