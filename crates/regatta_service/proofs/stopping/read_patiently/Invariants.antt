use Rattle.std.specs.Io.KnownBytes.{Keeps}
use Rattle.regatta_service.proofs.stopping.read_patiently.Given as goal

-- no byte has come
abbrev pub invariant-loop : goal.invariant-loop
invariant-loop g l = Keeps (g.S.Read.remaining l.fn.stream) (g.S.Read.remaining l.stream)
