-- What a log has room for once a batch is kept.
use Rattle.std.proofs.Common.{◌+◌, ◌≤◌, length}
use Rattle.std.proofs.Common.{ap, arith, length-append}
use Rattle.regatta_terms.specs.declared.limits.TheConstants.{MAX_ENTRIES}
use Rattle.regatta_scores.specs.Journal.{Journal}
use Rattle.regatta_keep.specs.Crashes.{Seen}
use Rattle.regatta_keep.specs.Settled.{AreKept, HasRoom}
use Rattle.regatta_keep.specs.WholeLines.{kept}

pub room_after : {L : Type 0} (seen : Seen L) (entries more : Journal) (old new : L)
    → AreKept seen entries old new
    → length (kept (seen.held old)) + length entries + length more ≤ MAX_ENTRIES
    → HasRoom seen more new
room_after seen entries more old new are few = record {
  settled = are.settled;
  few = omega (arith, few, ap length are.added, length-append (kept (seen.held old)) entries);
}
