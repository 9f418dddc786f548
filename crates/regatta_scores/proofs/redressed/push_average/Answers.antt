use Rattle.std.proofs.Common.{◌∙◌, arith, sym}
use Rattle.regatta_scores.proofs.Reading.{all_more, before_more}
use Rattle.regatta_scores.proofs.redressed.push_average.Goals as goal

pub returns-then-is_over_all : goal.returns-then-is_over_all
returns-then-is_over_all c = λ scores n is low at none.
    all_more scores n c.args.score.now low at is none
    (sym c.is_over_all.ensures ∙ c.if-is_over_all.true)
    (omega (arith, c.len.ensures.value, c.len.ensures.fits, c.requires.few, is.long))
    c.push-then-is_over_all.ensures.items c.push.ensures.items

pub returns-else-is_over_all : goal.returns-else-is_over_all
returns-else-is_over_all c = λ scores n is low at none.
    before_more scores n c.args.score.now low at is none
    (sym c.is_over_all.ensures ∙ c.if-is_over_all.false) c.average_or.ensures
    c.push-else-is_over_all.ensures.items
