use Rattle.std.proofs.Common.{◌≡◌, ◌+◌}
use Rattle.regatta_service.proofs.serving.accept_all.Given as goal

-- no call of the door has failed, and each client that it gave was admitted
abbrev pub invariant-loop : goal.invariant-loop
invariant-loop g l =
    (goal.iterator-loop g).can_next l.iterator' × (goal.iterator-loop g).is_finite l.iterator'
    × (g.D.Device.failures l.door ≡ g.D.Device.failures l.fn.door)
    × (g.D.Door.given l.door ≡ g.D.Door.given l.fn.door + l.admitted)
