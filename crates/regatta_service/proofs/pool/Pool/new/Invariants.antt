use Rattle.std.proofs.Common.{◌≡◌, ◌++◌, Some, map}
use Rattle.regatta_service.proofs.pool.Pool.new.Given as goal

-- the slots so far, and those of the passes that are left
abbrev pub invariant-loop-pass : goal.invariant-loop-pass
invariant-loop-pass g l = l.slots.items ++ map Some l.pass-iterator.rest.items
    ≡ map Some l.fn.passes.items
