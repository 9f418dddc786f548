use Rattle.std.proofs.Common.{◌≡◌, map, take}
use Rattle.regatta_service.proofs.serving.seats_of.Given as goal

-- the seats so far
abbrev pub invariant-loop-pass : goal.invariant-loop-pass
invariant-loop-pass g l = l.seats.items ≡ map (λ p. p.seat) (take l.pass-index l.passes)
