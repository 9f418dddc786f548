use Rattle.std.proofs.Common.{◌≡◌, ◌≤◌, vec_capacity, vec_len}
use Rattle.regatta_board.specs.Refusals.{limits}
use Rattle.regatta_board.specs.Table.{lines}
use Rattle.regatta_board.proofs.scoring.whole_lines.Given as goal

-- the lines so far, and room for the others
abbrev pub invariant-loop-boat : goal.invariant-loop-boat
invariant-loop-boat l = record {
  made : l.lines.items ≡ lines l.rules l.columns l.boat;
  long : vec_len l.lines ≡ l.boat;
  room : limits.boats ≤ vec_capacity l.lines;
}
