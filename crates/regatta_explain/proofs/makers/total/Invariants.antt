use Rattle.std.proofs.Common.{◌≡◌, ◌*◌, ◌≤◌, take}
use Rattle.std.specs.Prelude.{sum_by}
use Rattle.regatta_explain.proofs.makers.total.Given as goal

-- the sum so far
abbrev pub invariant-loop-cell : goal.invariant-loop-cell
invariant-loop-cell l = record {
  sum : l.total ≡ sum_by (λ cell. cell.points) (take l.cell-index l.cells);
  bound : l.total ≤ 65535 * l.cell-index;
}
