use Rattle.std.proofs.Common.{◌≡◌, take}
use Rattle.std.specs.Io.KnownBytes.{Keeps}
use Rattle.regatta_service.specs.LinesTaken.{WentOn, point}
use Rattle.regatta_service.proofs.sessions.Talk.take_all.Given as goal

-- no call of the stream has failed, no cover was refused, and the session goes on after the bytes so
-- far; what is still to be read stays
abbrev pub invariant-loop-byte : goal.invariant-loop-byte
invariant-loop-byte g l = record {
  well : g.S.Device.failures l.stream ≡ g.S.Device.failures l.fn.stream;
  no_read : g.S.Device.failed_reads l.stream ≡ g.S.Device.failed_reads l.fn.stream;
  covered : g.C.Covers.refused l.covers ≡ g.C.Covers.refused l.fn.covers;
  went : WentOn g.N.OfficeName.rules l.fn.self.cutter (take l.byte-index l.piece)
      (point l.fn.self.role l.fn.pass (g.S.Device.contents l.fn.stream)
      (g.C.Covers.book l.fn.covers)) l.self.cutter
      (point l.self.role l.pass (g.S.Device.contents l.stream)
      (g.C.Covers.book l.covers));
  keeps : Keeps (g.S.Device.remaining l.fn.stream) (g.S.Device.remaining l.stream);
}
