use Rattle.std.proofs.Common.{◌≡◌}
use Rattle.regatta_terms.specs.declared.command.Role.{Role}
use Rattle.regatta_service.specs.LinesTaken.{point}
use Rattle.regatta_service.proofs.Talking.{SoFar}
use Rattle.regatta_service.proofs.sessions.session_with.Given as goal

-- no call of the stream has failed, no cover was refused, and the session goes on after the bytes so far
abbrev pub invariant-loop : goal.invariant-loop
invariant-loop g l =
    (goal.iterator-loop g).can_next l.iterator' × (goal.iterator-loop g).is_finite l.iterator'
    × (g.S.Device.failures l.stream ≡ g.S.Device.failures l.fn.stream)
    × (g.S.Device.failed_reads l.stream ≡ g.S.Device.failed_reads l.fn.stream)
    × (g.C.Covers.refused l.covers ≡ g.C.Covers.refused l.fn.covers)
    × SoFar g.N.OfficeName.rules (g.S.Device.remaining l.fn.stream)
    (g.S.Device.remaining l.stream)
    (point Role.Scorer l.fn.pass (g.S.Device.contents l.fn.stream)
    (g.C.Covers.book l.fn.covers)) l.talk.cutter
    (point l.talk.role l.pass (g.S.Device.contents l.stream) (g.C.Covers.book l.covers))
