use Rattle.std.proofs.Common.{◌≡◌}
use Rattle.regatta_service.proofs.door.accept_again.Given as goal

-- no client came yet
abbrev pub invariant-loop-pause : goal.invariant-loop-pause
invariant-loop-pause g l = l.came ≡ l.fn.came
