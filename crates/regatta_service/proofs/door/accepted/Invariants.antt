use Rattle.std.proofs.Common.{◌≡◌}
use Rattle.regatta_service.proofs.door.accepted.Given as goal

-- each client so far was turned away
abbrev pub invariant-loop : goal.invariant-loop
invariant-loop g l =
    (goal.iterator-loop g).can_next l.iterator' × (goal.iterator-loop g).is_finite l.iterator'
    × (l.came ≡ l.fn.came)
