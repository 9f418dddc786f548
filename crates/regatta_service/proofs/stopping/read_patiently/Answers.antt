use Rattle.regatta_service.proofs.Waiting.{reads_after}
use Rattle.regatta_service.proofs.stopping.read_patiently.Goals as goal

pub returns-in-Some-clause-bytes : goal.returns-in-Some-clause-bytes
returns-in-Some-clause-bytes g c = reads_after _ _ _ _ _ c.loop.invariant c.in-Some.ensures.bytes
