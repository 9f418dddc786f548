use Rattle.std.proofs.Common.{◌≡◌, ◌++◌, [], Some, map, sym, ◌∙◌, append-nil}
use Rattle.regatta_service.proofs.Lowest.{none_left}
use Rattle.regatta_service.proofs.pool.Pool.into_passes.Goals as goal

-- no slot is left
pub returns : goal.returns
returns g c =
    let rest = c.loop-slot.slot-iterator.rest in
    let none : rest.items ≡ [] = none_left rest.items (sym rest.ok.0 ∙ c.in-None.ensures.steps.0) in
    sym (append-nil (map Some c.loop-slot.passes.items))
    ∙ (λ k. map Some c.loop-slot.passes.items ++ sym none k)
    ∙ c.loop-slot.invariant
