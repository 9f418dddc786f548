use Rattle.std.proofs.Common.{◌≡◌, ◌≤◌, ◌-◌, Some}
use Rattle.regatta_office.specs.Coming.{Talked}
use Rattle.regatta_office.specs.Scribes.{point}
use Rattle.regatta_office.specs.declared.run.TheConstants.{INPUT_LIMIT}
use Rattle.regatta_office.proofs.run.answer_all.Given as goal

-- all that was read so far is answered, and no call failed
abbrev pub invariant-loop-count : goal.invariant-loop-count
invariant-loop-count g l = record {
  most : l.most ≤ INPUT_LIMIT;
  well_read : g.R.Device.failures l.input ≡ g.R.Device.failures l.fn.input;
  well_written : g.W.Device.failures l.output ≡ g.W.Device.failures l.fn.output;
  talked : Talked (g.R.Device.remaining l.fn.input) (g.R.Device.remaining l.input)
      (g.W.Device.contents l.fn.output) (g.W.Device.contents l.output)
      (point l.fn.scribe) (point l.scribe) (Some (INPUT_LIMIT - l.most));
}

-- each turn takes a byte or more
abbrev pub decreases-loop-count : goal.decreases-loop-count
decreases-loop-count g l = l.most
