use Rattle.std.proofs.Common.{◌≡◌, ◌+◌, ◌-◌, ◌∙◌, drop, take, arith, ap, sym}
use Rattle.regatta_office.proofs.EndFacts.{searched_more}
use Rattle.regatta_office.proofs.ends.searched.Goals as goal

-- thirty-two bytes more
pub loop-from-preserved : goal.loop-from-preserved
loop-from-preserved c =
    let from = c.loop-from.from in
    let text = c.args.text.now in
    let near : from + 32 - from ≡ 32 = omega arith in
    record {
      few = omega arith;
      none = c.loop-from.invariant.none
          ∙ searched_more 32 from text _ (omega arith) (ap (λ n. take n (drop from text)) near)
          (sym c.has_end.ensures ∙ c.if-has_end.false);
    }
