use Rattle.std.proofs.Common.{rules, ◌≡◌, ◌+◌, ◌-◌, ◌≤◌, ℕ, Some, IfSome, Option, false, arith}
use Rattle.std.proofs.Common.{sym, ◌∙◌, subst}
use Rattle.regatta_office.specs.Coming.{IsTooLong, IsWithin, ReadSome, Talked, coming}
use Rattle.regatta_office.specs.Scribes.{point}
use Rattle.regatta_office.specs.declared.run.TheConstants.{INPUT_LIMIT}
use Rattle.regatta_office.proofs.Streams.{broke_off, cut_at, stop_at, gave_more, talked_more}
use Rattle.regatta_office.proofs.Streams.{talked_end, too_long_at, within_at}
use Rattle.regatta_office.proofs.Results.{err_as}
use Rattle.regatta_office.proofs.run.answer_all.Goals as goal

pub loop-count-preserved : goal.loop-count-preserved
loop-count-preserved g c =
    let most = c.loop-count.most in
    let count = c.in-Ok-Some.count in
    let few : count ≤ most = (rw c.in-Ok-Some.field-0-is at c.in-Ok-Some.ensures.count).1 in
    let so_far = c.loop-count.invariant.most in
    let sum : INPUT_LIMIT - most + count ≡ INPUT_LIMIT - (most - count) = omega
    (arith, few, so_far) in
    record {
      most = omega (arith, so_far);
      well_read = c.in-Ok-Some.ensures.counted.0 ∙ c.loop-count.invariant.well_read;
      well_written = c.in-Ok-Some.ensures.counted.1 ∙ c.loop-count.invariant.well_written;
      talked = subst (λ (n : ℕ). Talked (g.R.Device.remaining c.args.input.now)
          (g.R.Device.remaining c.turn.new.input) (g.W.Device.contents c.args.output.now)
          (g.W.Device.contents c.turn.new.output) (point c.args.scribe.now) (point c.turn.new.scribe)
          (Some n))
          sum (talked_more _ _ _ _ _ _ _ _ _ (INPUT_LIMIT - most) c.loop-count.invariant.talked
          count (rw c.in-Ok-Some.field-0-is at c.in-Ok-Some.ensures.talked));
    }

pub returns-in-Ok-None-clause-talked : goal.returns-in-Ok-None-clause-talked
returns-in-Ok-None-clause-talked g c =
    talked_end _ _ (g.R.Device.remaining c.turn.new.input) _ _
    (g.W.Device.contents c.turn.new.output) _ _ (point c.turn.new.scribe)
    (INPUT_LIMIT - c.loop-count.most) c.loop-count.invariant.talked
    (rw c.in-Ok-None.field-0-is at c.in-Ok-None.ensures.talked)

pub returns-in-Ok-None-clause-breaks : goal.returns-in-Ok-None-clause-breaks
returns-in-Ok-None-clause-breaks g c =
    let so_far = c.loop-count.invariant.most in
    record {
      taken = gave_more _ _ (g.R.Device.remaining c.turn.new.input) _ _
          (g.W.Device.contents c.turn.new.output) _ _ (point c.turn.new.scribe)
          (INPUT_LIMIT - c.loop-count.most) c.loop-count.invariant.talked
          (c.loop-count.most + 1) 1048577 (omega (arith, so_far)) c.turn.ensures.breaks.taken;
      read = search rules;
      long = search rules;
      cut = search rules;
      stopped = search rules;
    }

pub returns-in-Ok-None-clause-within : goal.returns-in-Ok-None-clause-within
returns-in-Ok-None-clause-within g c =
    let most = c.loop-count.most in
    let so_far = c.loop-count.invariant.most in
    let sum : INPUT_LIMIT - most + most ≡ INPUT_LIMIT = omega (arith, so_far) in
    subst (λ (n : ℕ). IfSome (g.R.Device.remaining c.args.input.now)
    (IsWithin (coming (point c.args.scribe.now)) n)) sum
    (within_at _ _ (g.R.Device.remaining c.turn.new.input) _ _
    (g.W.Device.contents c.turn.new.output) _ _ (point c.turn.new.scribe)
    (INPUT_LIMIT - most) c.loop-count.invariant.talked most
    (c.in-Ok-None.ensures.within c.in-Ok-None.field-0-is))

-- a turn broke off; a failed read wrote nothing
pub returns-in-Err-clause-breaks : goal.returns-in-Err-clause-breaks
returns-in-Err-clause-breaks g c =
    let most = c.loop-count.most in
    let so_far = c.loop-count.invariant.most in
    let sum : INPUT_LIMIT - most + most ≡ INPUT_LIMIT = omega (arith, so_far) in
    let now = g.R.Device.remaining c.turn.new.input in
    record {
      taken = gave_more _ _ now _ _ (g.W.Device.contents c.turn.new.output) _ _
          (point c.turn.new.scribe) (INPUT_LIMIT - most) c.loop-count.invariant.talked
          (most + 1) 1048577 (omega (arith, so_far)) c.turn.ensures.breaks.taken;
      read = λ is.
          subst (λ (w : g.row.W.Denot). ReadSome (g.R.Device.remaining c.args.input.now) now
          (g.W.Device.contents c.args.output.now) (g.W.Device.contents w)
          (λ given. (coming (point c.args.scribe.now) false given).text))
          (sym (c.in-Err.ensures.read (err_as (Option ℕ) _ _ is)).0)
          (broke_off _ _ now _ _ (g.W.Device.contents c.turn.new.output) _ _
          (point c.turn.new.scribe) (INPUT_LIMIT - most) c.loop-count.invariant.talked
          (c.in-Err.ensures.read (err_as (Option ℕ) _ _ is)).1);
      long = λ is.
          subst (λ (n : ℕ). IfSome (g.R.Device.remaining c.args.input.now)
          (λ text. IsTooLong (g.W.Device.contents c.args.output.now)
          (g.W.Device.contents c.turn.new.output) (coming (point c.args.scribe.now)) n text)) sum
          (too_long_at _ _ now _ _ _ _ _ (point c.turn.new.scribe)
          (INPUT_LIMIT - most) c.loop-count.invariant.talked most
          (c.in-Err.ensures.breaks.long (err_as (Option ℕ) _ _ is)));
      cut = λ is.
          cut_at _ _ now _ _ _ _ _ (point c.turn.new.scribe) (INPUT_LIMIT - most)
          c.loop-count.invariant.talked (c.in-Err.ensures.breaks.cut (err_as (Option ℕ) _ _ is));
      stopped = λ is.
          stop_at _ _ now _ _ _ _ _ (point c.turn.new.scribe) (INPUT_LIMIT - most)
          c.loop-count.invariant.talked
          (c.in-Err.ensures.breaks.stopped (err_as (Option ℕ) _ _ is));
    }
