use Rattle.std.proofs.Common.{◌≡◌, ◌≤◌, ◌-◌, length, take, false}
use Rattle.regatta_office.specs.Coming.{Went}
use Rattle.regatta_office.specs.Scribes.{point}
use Rattle.regatta_office.proofs.scribe.Scribe.take_all.Given as goal

-- the bytes so far
abbrev pub invariant-loop-taken : goal.invariant-loop-taken
invariant-loop-taken g l = record {
  few : l.taken ≤ length l.piece;
  well : g.W.Device.failures l.output ≡ g.W.Device.failures l.fn.output;
  went : Went (g.W.Device.contents l.fn.output) (g.W.Device.contents l.output)
      (take l.taken l.piece) (point l.fn.self) (point l.self) false;
}

abbrev pub decreases-loop-taken : goal.decreases-loop-taken
decreases-loop-taken g l = length l.piece - l.taken
