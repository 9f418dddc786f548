use Rattle.std.proofs.Common.{take}
use Rattle.regatta_service.specs.Pools.{Finds}
use Rattle.regatta_service.proofs.pool.Pool.lowest.Given as goal

-- the lowest of the slots so far
abbrev pub invariant-loop-slot : goal.invariant-loop-slot
invariant-loop-slot g l = Finds (take l.slot l.self.slots) l.found
