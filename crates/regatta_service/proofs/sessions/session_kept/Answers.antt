use Rattle.std.proofs.Common.{rules, refl}
use Rattle.regatta_service.proofs.Talking.{talked_none}
use Rattle.regatta_service.proofs.sessions.session_kept.Goals as goal

-- no memory for replies
pub returns-in_default-clause-session : goal.returns-in_default-clause-session
returns-in_default-clause-session g c = record {
  failed = search rules;
  reads = search rules;
  closed = search rules;
  talked = talked_none _ _ _ _ _;
  sealed = search rules;
  seat = refl;
}
