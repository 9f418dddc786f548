use Rattle.std.proofs.Common.{rules, ◌≡◌, ◌<◌, ◌≤◌, IfSome, Err, length, take, drop, arith, sym, ap}
use Rattle.std.proofs.Common.{subst}
use Rattle.std.proofs.lemmas.List.{length-take, length-drop}
use Rattle.regatta_office.proofs.Streams.{any_stop, given_cut, given_stop, take_front, talked_quit}
use Rattle.regatta_office.proofs.Streams.{none_read, talked_long, within_quit}
use Rattle.regatta_office.specs.Coming.{Stops}
use Rattle.regatta_office.specs.Scribes.{point}
use Rattle.regatta_office.proofs.Results.{long_is_no_write, memory_is, read_is_no_write, write_is}
use Rattle.regatta_office.proofs.Results.{writer_counted}
use Rattle.regatta_office.proofs.run.turn.Goals as goal

pub returns-in-Ok-true-clause-talked : goal.returns-in-Ok-true-clause-talked
returns-in-Ok-true-clause-talked g c =
    let few : c.min-2.result ≤ c.in-Ok.count = omega (arith, c.min-2.ensures) in
    talked_quit _ _ _ _ _ _ _ _ _ (take_front c.min-2.result c.in-Ok.count c.read.new.buf few)
    c.in-Ok.ensures.bytes.0 (rw c.in-Ok-true.field-0-test at c.in-Ok-true.ensures.went)

pub returns-in-Ok-true-clause-within : goal.returns-in-Ok-true-clause-within
returns-in-Ok-true-clause-within g c = λ none.
    let buf = c.read.new.buf in
    let few : c.min-2.result ≤ c.in-Ok.count = omega (arith, c.min-2.ensures) in
    let short : length (take c.min-2.result buf) ≤ c.args.most = omega
    (arith, c.min-2.ensures, length-take c.min-2.result buf) in
    within_quit _ _ _ _ _ _ _ _ _ _ (take_front c.min-2.result c.in-Ok.count buf few) short
    c.in-Ok.ensures.bytes.0 (rw c.in-Ok-true.field-0-test at c.in-Ok-true.ensures.went)

-- nothing was read
pub returns-in_default-clause-breaks : goal.returns-in_default-clause-breaks
returns-in_default-clause-breaks g c = record {
  taken = search rules;
  read = λ is. none_read (g.R.Device.remaining c.args.input.now)
      (g.R.Device.remaining c.read.new.self) (g.W.Device.contents c.args.output.now)
      (point c.args.scribe.now) (search rules);
  long = search rules;
  cut = search rules;
  stopped = search rules;
}

-- the text is longer than the limit
pub returns-then-most-count-clause-breaks : goal.returns-then-most-count-clause-breaks
returns-then-most-count-clause-breaks g c =
    let buf = c.read.new.buf in
    let few : c.min-2.result ≤ c.in-Ok.count = omega (arith, c.min-2.ensures) in
    let full : length (take c.min-2.result buf)
    ≡ c.args.most = omega (
      arith,
      c.if-most-count.true,
      c.min-2.ensures,
      c.in-Ok.ensures.bound,
      length-take c.min-2.result buf,
    ) in
    let more : 0 < length (drop c.min-2.result (take c.in-Ok.count buf)) =
    omega (
      arith,
      c.if-most-count.true,
      c.min-2.ensures,
      c.in-Ok.ensures.bound,
      length-take c.in-Ok.count buf,
      length-drop c.min-2.result (take c.in-Ok.count buf),
    )
    in
    record {
      taken = search rules;
      read = search rules;
      long = λ is. talked_long _ _ _ _ _ _ _ _ _ _
          (take_front c.min-2.result c.in-Ok.count buf few) full more
          c.in-Ok.ensures.bytes.0 (rw c.in-Ok-false.field-0-test at c.in-Ok-false.ensures.went);
      cut = search rules;
      stopped = search rules;
    }

-- a write or an allocation failed at the end of the text
pub returns-in-Err-clause-breaks : goal.returns-in-Err-clause-breaks
returns-in-Err-clause-breaks g c =
    let fault = c.in-Err.fault in
    let told = c.scribe_fault.result in
    let made = c.scribe_fault.ensures in
    record {
      taken = search rules;
      read = λ is. read_is_no_write fault told _ made is;
      long = λ is. long_is_no_write fault told _ made is;
      cut = search rules;
      stopped = λ is.
          subst (λ (w : g.row.W.Denot). IfSome (g.R.Device.remaining c.args.input.now)
          (Stops (g.W.Device.contents c.args.output.now) (g.W.Device.contents w)
          (point c.args.scribe.now)))
          (sym (c.in-Err.ensures.silent (ap Err (memory_is fault told made is))))
          (any_stop _ (g.W.Device.contents c.args.output.now) (point c.args.scribe.now));
    }

-- a write or an allocation failed in the piece
pub returns-in-Err-take_all-clause-breaks : goal.returns-in-Err-take_all-clause-breaks
returns-in-Err-take_all-clause-breaks g c =
    let fault = c.in-Err-take_all.fault in
    let told = c.scribe_fault-in-Err-take_all.result in
    let made = c.scribe_fault-in-Err-take_all.ensures in
    let few : c.min-2.result ≤ c.in-Ok.count = omega (arith, c.min-2.ensures) in
    let front = take_front c.min-2.result c.in-Ok.count c.read.new.buf few in
    record {
      taken = search rules;
      read = λ is. read_is_no_write fault told _ made is;
      long = λ is. long_is_no_write fault told _ made is;
      cut = λ is. given_cut _ _ _ _ _ _ _ _ front c.in-Ok.ensures.bytes.0
          (c.in-Err-take_all.ensures.cut (ap Err (write_is fault told made is)));
      stopped = λ is. given_stop _ _ _ _ _ _ _ _ front c.in-Ok.ensures.bytes.0
          (c.in-Err-take_all.ensures.stopped (ap Err (memory_is fault told made is)));
    }

-- a failed write or allocation is reported as no failed read
pub returns-in-Err-clause-read : goal.returns-in-Err-clause-read
returns-in-Err-clause-read g c = λ is. read_is_no_write c.in-Err.fault c.scribe_fault.result _
    c.scribe_fault.ensures is

pub returns-in-Err-take_all-clause-read : goal.returns-in-Err-take_all-clause-read
returns-in-Err-take_all-clause-read g c = λ is. read_is_no_write c.in-Err-take_all.fault
    c.scribe_fault-in-Err-take_all.result _ c.scribe_fault-in-Err-take_all.ensures is

-- the calls of both devices are counted
pub returns-in-Err-clause-counted : goal.returns-in-Err-clause-counted
returns-in-Err-clause-counted g c =
    writer_counted _ _ _ _ c.in-Err.fault c.scribe_fault.result c.scribe_fault.ensures
    c.in-Ok.ensures.well c.in-Err.ensures.writes

pub returns-in-Err-take_all-clause-counted : goal.returns-in-Err-take_all-clause-counted
returns-in-Err-take_all-clause-counted g c =
    writer_counted _ _ _ _ c.in-Err-take_all.fault c.scribe_fault-in-Err-take_all.result
    c.scribe_fault-in-Err-take_all.ensures c.in-Ok.ensures.well c.in-Err-take_all.ensures.writes
