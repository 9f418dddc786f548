use Rattle.std.proofs.Common.{◌∙◌, arith, length-set, sym}
use Rattle.regatta_scores.proofs.Currents.{positions_more, positions_all}
use Rattle.regatta_scores.proofs.current.positions_of.Goals as goal

pub loop-k-preserved : goal.loop-k-preserved
loop-k-preserved c = record {
  many = length-set _ _ _ ∙ c.loop-k.invariant.many;
  rest = rw c.from.ensures
      (positions_more _ c.args.new.now c.loop-k.k c.index-new-k.result (omega arith)
      ∙ c.loop-k.invariant.rest);
}

pub returns : goal.returns
returns c = sym (positions_all _ c.args.new.now c.loop-k.k (omega arith)) ∙ c.loop-k.invariant.rest
