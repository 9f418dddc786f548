use Rattle.regatta_service.proofs.Waiting.{writes_after}
use Rattle.regatta_service.proofs.writing.write_again.Goals as goal

pub returns-in-Some-clause-bytes : goal.returns-in-Some-clause-bytes
returns-in-Some-clause-bytes g c = writes_after _ _ _ _ _ c.loop.invariant c.in-Some.ensures.bytes
