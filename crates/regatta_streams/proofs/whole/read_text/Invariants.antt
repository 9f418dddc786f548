use Rattle.std.proofs.Common.{◌≡◌, ◌≤◌, ◌+◌, ◌-◌, length}
use Rattle.std.specs.Io.KnownBytes.{Consumes, Keeps}
use Rattle.regatta_streams.specs.declared.whole.TheConstants.{PIECE}
use Rattle.regatta_streams.proofs.whole.read_text.Given as goal

-- `text` is what was read so far, no call failed, and what was written stays
abbrev pub invariant-loop-buffer : goal.invariant-loop-buffer
invariant-loop-buffer g l = record {
  buffer : length l.buffer ≡ PIECE;
  limit : l.most ≡ l.fn.limit;
  few : length l.text.items ≤ l.most + 1;
  took : Consumes (g.R.Device.remaining l.fn.input) (g.R.Device.remaining l.input) l.text.items;
  well : g.R.Device.failures l.input ≡ g.R.Device.failures l.fn.input;
  keeps : Keeps (g.R.Device.contents l.fn.input) (g.R.Device.contents l.input);
}

abbrev pub decreases-loop-buffer : goal.decreases-loop-buffer
decreases-loop-buffer g l = l.most + 1 - length l.text.items
