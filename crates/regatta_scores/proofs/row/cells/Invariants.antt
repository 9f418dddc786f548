use Rattle.std.proofs.Common.{◌≡◌, length, take, vec_len, vec_capacity}
use Rattle.regatta_scores.specs.RaceScores.{scores_in}
use Rattle.regatta_scores.specs.Lines.{cells}
use Rattle.regatta_scores.proofs.row.cells.Given as goal

-- the races so far, and room for the others
abbrev pub invariant-loop-i : goal.invariant-loop-i
invariant-loop-i l = record {
  made : l.found.items ≡ take l.i (cells (scores_in l.columns l.boat) l.points l.flags);
  long : vec_len l.found ≡ l.i;
  room : vec_capacity l.found ≡ length l.columns;
}
