use Rattle.std.proofs.Common.{◌≡◌, ◌++◌, [], Some, map, sym, ◌∙◌, append-nil}
use Rattle.regatta_service.proofs.Lowest.{none_left, slot_more}
use Rattle.regatta_service.proofs.pool.Pool.new.Goals as goal

-- all passes are left, and no slot is there
pub loop-pass-init : goal.loop-pass-init
loop-pass-init g c = λ k. c.in_ok-slots.ensures.items k
    ++ map Some (c.into_iter-pass-iterator.ensures.into_iter_gives.0 k)

-- one more slot, and one pass fewer
pub loop-pass-preserved : goal.loop-pass-preserved
loop-pass-preserved g c = rw c.in_ok-push.ensures.items (slot_more c.loop-pass.slots.items
    (map Some c.args.passes.items) c.in-Some.pass c.next.new.self.rest.items
    c.loop-pass.pass-iterator.rest.items c.in-Some.ensures.steps.0 c.loop-pass.invariant)

-- no pass is left
pub returns-clause-slots : goal.returns-clause-slots
returns-clause-slots g c =
    let rest = c.loop-pass.pass-iterator.rest in
    let none : rest.items ≡ [] = none_left rest.items (sym rest.ok.0 ∙ c.in-None.ensures.steps.0) in
    sym (append-nil c.loop-pass.slots.items)
    ∙ (λ k. c.loop-pass.slots.items ++ map Some (sym none k))
    ∙ c.loop-pass.invariant
