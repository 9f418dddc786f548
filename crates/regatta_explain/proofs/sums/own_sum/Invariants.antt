use Rattle.std.proofs.Common.{◌≡◌, ◌*◌, ◌≤◌, take}
use Rattle.std.specs.Prelude.{filter, zip}
use Rattle.regatta_explain.specs.Averaged.{counted_sum, has_own}
use Rattle.regatta_explain.proofs.sums.own_sum.Given as goal

-- the sum so far
abbrev pub invariant-loop-i : goal.invariant-loop-i
invariant-loop-i l = record {
  sum : l.sum ≡ counted_sum (filter has_own (take l.i (zip l.races l.scores)));
  bound : l.sum ≤ 65535 * l.i;
}
