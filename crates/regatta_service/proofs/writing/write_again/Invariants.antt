use Rattle.std.specs.Io.KnownBytes.{Keeps}
use Rattle.regatta_service.proofs.writing.write_again.Given as goal

-- no byte was taken
abbrev pub invariant-loop : goal.invariant-loop
invariant-loop g l = Keeps (g.S.Write.contents l.fn.stream) (g.S.Write.contents l.stream)
