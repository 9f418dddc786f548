use Rattle.std.proofs.Common.{◌≡◌, ◌++◌, Some, map}
use Rattle.regatta_service.proofs.pool.Pool.into_passes.Given as goal

-- the passes so far, and the slots that are left
abbrev pub invariant-loop-slot : goal.invariant-loop-slot
invariant-loop-slot g l = map Some l.passes.items ++ l.slot-iterator.rest.items
    ≡ map Some l.fn.passes.items ++ l.fn.self.slots
