use Rattle.std.proofs.Common.{◌≡◌, ◌++◌, ℕ, List, length}
use Rattle.std.specs.Io.KnownBytes.{Appends, Keeps}
use Rattle.regatta_streams.proofs.whole.write_all.Given as goal

-- the bytes are those written so far, followed by `rest`; what is still to be read stays
abbrev pub invariant-loop-rest : goal.invariant-loop-rest
invariant-loop-rest g l =
    (done : List ℕ) × (l.bytes ≡ done ++ l.rest)
    × Appends (g.W.Device.contents l.fn.output) (g.W.Device.contents l.output) done
    × (g.W.Device.failures l.output ≡ g.W.Device.failures l.fn.output)
    × (g.W.Device.failed_reads l.output ≡ g.W.Device.failed_reads l.fn.output)
    × Keeps (g.W.Device.remaining l.fn.output) (g.W.Device.remaining l.output)

abbrev pub decreases-loop-rest : goal.decreases-loop-rest
decreases-loop-rest g l = length l.rest
