use Rattle.std.proofs.Common.{rules, Option, ℕ}
use Rattle.regatta_office.specs.Scribes.{point}
use Rattle.regatta_office.proofs.Gathering.{cut-more, few_more, slice_behind, stop-more, went-ended}
use Rattle.regatta_office.proofs.Gathering.{went-more}
use Rattle.regatta_office.proofs.Results.{err_as}
use Rattle.regatta_office.proofs.scribe.Scribe.take_all.Goals as goal

-- some bytes more
pub loop-taken-preserved : goal.loop-taken-preserved
loop-taken-preserved g c =
    let piece = c.args.piece.now in
    let taken = c.loop-taken.taken in
    record {
      few = few_more taken _ piece _ _ (slice_behind taken piece) c.in-Ok-Some.field-0-is
          c.loop-taken.invariant.few c.in-Ok-Some.ensures.count;
      well = search rules;
      went = went-more _ _ _ _ _ taken piece _ (slice_behind taken piece)
          c.loop-taken.invariant.went _ _ _ c.in-Ok-Some.field-0-is c.in-Ok-Some.ensures.took;
    }

-- the run ended within the rest
pub returns-in-Ok-None-clause-went : goal.returns-in-Ok-None-clause-went
returns-in-Ok-None-clause-went g c =
    let piece = c.args.piece.now in
    let taken = c.loop-taken.taken in
    went-ended _ _ _ _ _ taken piece _ (slice_behind taken piece) c.loop-taken.invariant.went
    _ _ c.in-Ok-None.field-0-is c.in-Ok-None.ensures.took

-- a write failed
pub returns-in-Err-clause-cut : goal.returns-in-Err-clause-cut
returns-in-Err-clause-cut g c = λ is.
    let piece = c.args.piece.now in
    let taken = c.loop-taken.taken in
    cut-more _ _ _ _ (point c.loop-taken.self) taken piece _ (slice_behind taken piece)
    c.loop-taken.invariant.went (c.in-Err.ensures.cut (err_as (Option ℕ) _ _ is))

-- an allocation failed
pub returns-in-Err-clause-stopped : goal.returns-in-Err-clause-stopped
returns-in-Err-clause-stopped g c = λ is.
    let piece = c.args.piece.now in
    let taken = c.loop-taken.taken in
    stop-more _ _ _ _ (point c.loop-taken.self) taken piece _ (slice_behind taken piece)
    c.loop-taken.invariant.went (c.in-Err.ensures.broke (err_as (Option ℕ) _ _ is))
