use Rattle.std.proofs.Common.{ℕ, List, Err, ap, rules, subst, sym, inl, inr}
use Rattle.std.specs.Global.{Vec}
use Rattle.std.specs.Io.KnownBytes.{Keeps}
use Rattle.regatta_streams.specs.Texts.{AppendsPrefix}
use Rattle.regatta_preview.specs.Runs.{WritesAtMost}
use Rattle.regatta_preview.proofs.RunFacts.{keeps_same, of_text, read_is_no_write, reader_failed}
use Rattle.regatta_preview.proofs.RunFacts.{start_stands}
use Rattle.regatta_preview.proofs.run.preview.Goals as goal

-- the text wasn't read
pub returns-in-Err-read_text-clause-start : goal.returns-in-Err-read_text-clause-start
returns-in-Err-read_text-clause-start g c =
    start_stands _ c.in-Err-read_text.fault c.read_fault.result c.read_fault.ensures
    c.in-Ok.ensures.accepted

pub returns-in-Err-read_text-clause-taken : goal.returns-in-Err-read_text-clause-taken
returns-in-Err-read_text-clause-taken g c = record { most = search rules; long = search rules }

pub returns-in-Err-read_text-clause-counted : goal.returns-in-Err-read_text-clause-counted
returns-in-Err-read_text-clause-counted g c =
    reader_failed (Vec ℕ) (Unit {0}) _ _ _ c.in-Err-read_text.fault c.read_fault.result
    c.read_fault.ensures c.in-Err-read_text.ensures.failed

pub returns-in-Err-read_text-clause-cut : goal.returns-in-Err-read_text-clause-cut
returns-in-Err-read_text-clause-cut g c = λ is.
    read_is_no_write c.in-Err-read_text.fault c.read_fault.result _ c.read_fault.ensures is

-- the document wasn't written
pub returns-in-Err-Write-clause-cut : goal.returns-in-Err-Write-clause-cut
returns-in-Err-Write-clause-cut g c = λ is.
    of_text (g.R.Device.remaining c.args.input.now) c.in-Ok-read_text.text.items
    c.deref.result.now c.in-Ok.board c.args.rules.now c.args.start.now c.args.role
    (AppendsPrefix (g.W.Device.contents c.args.output.now) (g.W.Device.contents c.print.new.output))
    c.in-Ok-read_text.ensures.text c.in-Ok.ensures.board c.deref.ensures.value
    (c.in-Err-Write.ensures.cut (ap Err c.in-Err-Write.field-0-is))

pub returns-in-Err-Write-clause-at_most : goal.returns-in-Err-Write-clause-at_most
returns-in-Err-Write-clause-at_most g c =
    inr (of_text (g.R.Device.remaining c.args.input.now) c.in-Ok-read_text.text.items
    c.deref.result.now c.in-Ok.board c.args.rules.now c.args.start.now c.args.role
    (λ (t : List ℕ). WritesAtMost t (g.W.Device.contents c.args.output.now)
    (g.W.Device.contents c.print.new.output))
    c.in-Ok-read_text.ensures.text c.in-Ok.ensures.board c.deref.ensures.value
    (inr (c.in-Err-Write.ensures.cut (ap Err c.in-Err-Write.field-0-is))))

-- there was no memory for it
pub returns-clause-at_most : goal.returns-clause-at_most
returns-clause-at_most g c =
    inl (subst (λ (w : g.row.W.Denot). Keeps (g.W.Device.contents c.args.output.now)
    (g.W.Device.contents w))
    (sym (c.in-Err-NoMemory.ensures.silent (ap Err c.in-Err-NoMemory.field-0-is)))
    (keeps_same (g.W.Device.contents c.args.output.now)))

pub returns-clause-untouched : goal.returns-clause-untouched
returns-clause-untouched g c =
    record {
      refused = λ some. absurd (some c.in-Ok.ensures.accepted);
      silent = λ _. c.in-Err-NoMemory.ensures.silent (ap Err c.in-Err-NoMemory.field-0-is);
    }
