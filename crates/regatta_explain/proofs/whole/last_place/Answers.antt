use Rattle.std.proofs.Common.{ap, arith, length}
use Rattle.regatta_explain.proofs.whole.last_place.Goals as goal

pub overflow_cast-result : goal.overflow_cast-result
overflow_cast-result c =
    omega (
      arith,
      c.last_entry.ensures,
      ap length c.entries.ensures.value,
      c.len.ensures.value,
      c.len.ensures.bound,
    )
