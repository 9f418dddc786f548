use Rattle.std.proofs.Common.{◌∙◌, arith, refl, sym}
use Rattle.regatta_scores.proofs.Reading.{own_more}
use Rattle.regatta_scores.proofs.redressed.push_points.Goals as goal

pub returns-then-is_own : goal.returns-then-is_own
returns-then-is_own c = λ scores n is low at.
    own_more scores n c.args.score.now low at is (omega (arith, c.get.ensures))
    (sym c.is_own.ensures ∙ c.if-is_own.true) c.push.ensures.items refl
    (omega (arith, c.get.ensures))
