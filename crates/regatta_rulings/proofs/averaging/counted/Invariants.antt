use Rattle.std.proofs.Common.{◌≡◌, ◌*◌, ◌≤◌, length, take, sum_by}
use Rattle.std.specs.Prelude.{filter}
use Rattle.regatta_rulings.specs.Averages.{is_counted}
use Rattle.regatta_rulings.proofs.averaging.counted.Given as goal

abbrev pub invariant-loop-other : goal.invariant-loop-other
invariant-loop-other l = record {
  number : l.so_far.number
      ≡ length (filter (is_counted l.fn.races l.fn.race) (take l.other-index l.sailed));
  sum : l.so_far.sum ≡ sum_by (λ other. other.points)
      (filter (is_counted l.fn.races l.fn.race) (take l.other-index l.sailed));
  few : l.so_far.number ≤ l.other-index;
  bound : l.so_far.sum ≤ 65535 * l.so_far.number;
}
