use Rattle.std.proofs.Common.{◌≤◌, ◌-◌, length, take, false, [], Some}
use Rattle.regatta_office.specs.Coming.{Went}
use Rattle.regatta_office.specs.Scribes.{point}
use Rattle.regatta_office.proofs.scribe.Scribe.gather.Given as goal

-- the lines so far
abbrev pub invariant-loop-taken : goal.invariant-loop-taken
invariant-loop-taken l = record {
  few : l.taken ≤ length l.piece;
  went : Went (Some []) (Some l.self.due.items) (take l.taken l.piece) (point l.fn.self)
      (point l.self) false;
}

abbrev pub decreases-loop-taken : goal.decreases-loop-taken
decreases-loop-taken l = length l.piece - l.taken
