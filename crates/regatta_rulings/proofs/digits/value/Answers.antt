use Rattle.std.proofs.Common.{arith}
use Rattle.regatta_terms.proofs.DigitFacts.{value_below, value_more}
use Rattle.regatta_rulings.proofs.digits.value.Goals as goal

pub overflow_mul-number : goal.overflow_mul-number
overflow_mul-number c = omega (
  arith,
  value_below c.args.digits.now c.loop-digit.digit-index
      c.requires.digits c.requires.short,
)

pub overflow_add-number : goal.overflow_add-number
overflow_add-number c = omega (
  arith,
  value_below c.args.digits.now c.loop-digit.digit-index
      c.requires.digits c.requires.short,
)

pub loop-digit-preserved : goal.loop-digit-preserved
loop-digit-preserved c = omega (
  arith,
  value_more c.args.digits.now c.loop-digit.digit-index
      c.loop-digit.number c.requires.digits c.loop-digit-test.true c.loop-digit.invariant,
)
