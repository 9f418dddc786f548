use Rattle.std.proofs.Common.{None, Some, sym, ◌∙◌}
use Rattle.regatta_rulings.proofs.PointWords.{tenths_behind}
use Rattle.regatta_rulings.proofs.digits.tenths_in.Goals as goal

pub returns-in_err-part-in-Some-clause-value : goal.returns-in_err-part-in-Some-clause-value
returns-in_err-part-in-Some-clause-value c =
    c.from_residual-in_err-part-in-Some.ensures
    ∙ tenths_behind c.args.word.now c.cut.result.0.now c.in-Some.part.now c.in_ok-whole.whole None
    (rw c.in-Some.is at c.cut.ensures.parts) (sym c.in_ok-whole.ensures.value)
    (sym c.in_err-part-in-Some.ensures.value)

pub returns-in_ok-part-in-Some-clause-value : goal.returns-in_ok-part-in-Some-clause-value
returns-in_ok-part-in-Some-clause-value c =
    tenths_behind c.args.word.now c.cut.result.0.now c.in-Some.part.now c.in_ok-whole.whole
    (Some c.in_ok-part-in-Some.part) (rw c.in-Some.is at c.cut.ensures.parts)
    (sym c.in_ok-whole.ensures.value) (sym c.in_ok-part-in-Some.ensures.value)
