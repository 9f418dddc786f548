use Rattle.regatta_office.proofs.Gathering.{few_more, slice_behind, went-ended, went-more}
use Rattle.regatta_office.proofs.scribe.Scribe.gather.Goals as goal

-- a line more
pub loop-taken-preserved : goal.loop-taken-preserved
loop-taken-preserved c =
    let piece = c.args.piece.now in
    let taken = c.loop-taken.taken in
    record {
      few = few_more taken _ piece _ _ (slice_behind taken piece) c.in-Ok-Some.field-0-is
          c.loop-taken.invariant.few c.in-Ok-Some.ensures.count;
      went = went-more _ _ _ _ _ taken piece _ (slice_behind taken piece)
          c.loop-taken.invariant.went _ _ _ c.in-Ok-Some.field-0-is c.in-Ok-Some.ensures.took;
    }

-- the run ended at that line
pub returns-in-Ok-None-clause-took : goal.returns-in-Ok-None-clause-took
returns-in-Ok-None-clause-took c =
    let piece = c.args.piece.now in
    let taken = c.loop-taken.taken in
    went-ended _ _ _ _ _ taken piece _ (slice_behind taken piece) c.loop-taken.invariant.went
    _ _ c.in-Ok-None.field-0-is c.in-Ok-None.ensures.took

-- much is to be written after that line
pub returns-then-len-ge-DUE_LIMIT-clause-took : goal.returns-then-len-ge-DUE_LIMIT-clause-took
returns-then-len-ge-DUE_LIMIT-clause-took c =
    let piece = c.args.piece.now in
    let taken = c.loop-taken.taken in
    went-more _ _ _ _ _ taken piece _ (slice_behind taken piece) c.loop-taken.invariant.went
    _ _ _ c.in-Ok-Some.field-0-is c.in-Ok-Some.ensures.took
