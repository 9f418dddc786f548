use Rattle.std.proofs.Common.{rules}
use Rattle.regatta_rulings.proofs.WordFacts.{joined_more}
use Rattle.regatta_rulings.proofs.words.join.Goals as goal

pub loop-word-preserved : goal.loop-word-preserved
loop-word-preserved c = record {
  joined = joined_more _ _ _ _ _ c.loop-word-test.true c.loop-word.invariant.joined
      c.in-Ok.ensures.ok;
  few = search rules;
}
