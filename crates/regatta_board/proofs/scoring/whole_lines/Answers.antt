use Rattle.std.proofs.Common.{◌∙◌, ◌++◌, ◌∷◌, [], arith, sym}
use Rattle.regatta_board.proofs.Lines.{lines_more}
use Rattle.regatta_board.proofs.scoring.whole_lines.Goals as goal

pub loop-boat-preserved : goal.loop-boat-preserved
loop-boat-preserved c = record {
  made = c.push_reserved.ensures.items
      ∙ (λ i. c.loop-boat.invariant.made i ++ c.boat_line.ensures.value i ∷ [])
      ∙ sym (lines_more c.args.rules.now c.args.columns.now c.loop-boat.boat);
  long = omega (arith, c.push_reserved.ensures.len, c.loop-boat.invariant.long);
  room = omega (arith, c.push_reserved.ensures.capacity, c.loop-boat.invariant.room);
}
