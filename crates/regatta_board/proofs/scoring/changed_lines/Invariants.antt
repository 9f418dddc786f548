use Rattle.std.proofs.Common.{◌≡◌, ◌≤◌, ◌++◌, drop, length}
use Rattle.regatta_scores.specs.Current.{with_changed, AreOfBoats}
use Rattle.regatta_board.specs.Table.{lines}
use Rattle.regatta_board.proofs.scoring.changed_lines.Given as goal

-- the lines of the boats so far are those after the command, and the others are those before it
abbrev pub invariant-loop-boat : goal.invariant-loop-boat
invariant-loop-boat l = record {
  each : AreOfBoats l.boat l.made.items;
  fewer : length l.made.items ≤ l.boat;
  value : with_changed l.lines l.made.items
      ≡ lines l.rules l.columns l.boat ++ drop l.boat l.lines;
}
