use Rattle.std.proofs.Common.{rules, IfSome, Err, sym, ap, ◌∙◌, subst}
use Rattle.std.specs.Io.KnownBytes.{Appends}
use Rattle.regatta_office.proofs.Whole.{WroteSome}
use Rattle.regatta_office.specs.declared.run.TheConstants.{INPUT_LIMIT}
use Rattle.regatta_office.specs.Scribes.{point}
use Rattle.regatta_office.proofs.Results.{long_is_no_write, memory_is, read_is_no_write}
use Rattle.regatta_office.proofs.Results.{start_stands, write_is}
use Rattle.regatta_office.proofs.Results.{writer_failed}
use Rattle.regatta_office.proofs.Streams.{all_after, all_wrote, prefix-behind}
use Rattle.regatta_streams.proofs.KnownBytes.{appends-then}
use Rattle.regatta_streams.specs.Texts.{AppendsPrefix}
use Rattle.regatta_office.proofs.Whole.{all_said, run_written, whole_breaks, whole_text, within_limit}
use Rattle.regatta_office.proofs.Whole.{wrote_nothing}
use Rattle.regatta_office.proofs.run.replay.Goals as goal

-- the start is refused: nothing was written
pub returns-in-Err-clause-breaks : goal.returns-in-Err-clause-breaks
returns-in-Err-clause-breaks g c = record {
  taken = search rules;
  read = search rules;
  long = search rules;
  cut = search rules;
  stopped = λ is. wrote_nothing c.args.rules.now c.args.start.now
      (g.R.Device.remaining c.args.input.now) (g.W.Device.contents c.args.output.now);
}

-- the run broke off
pub returns-in-Err-answer_all-clause-breaks : goal.returns-in-Err-answer_all-clause-breaks
returns-in-Err-answer_all-clause-breaks g c =
    whole_breaks c.args.rules.now c.args.start.now c.in-Ok.board
    (point c.new-scribe.result) c.in-Ok.ensures.board c.new-scribe.ensures
    c.args.form INPUT_LIMIT _ _ _ _ _ c.in-Err-answer_all.ensures.breaks

-- all was answered, and the final part written
pub returns-in-Ok-print_final-clause-answered : goal.returns-in-Ok-print_final-clause-answered
returns-in-Ok-print_final-clause-answered g c =
    let talked = c.in_default.ensures.talked in
    whole_text c.args.rules.now c.args.start.now c.in-Ok.board
    (point c.new-scribe.result) c.in-Ok.ensures.board c.new-scribe.ensures Appends appends-then
    (g.R.Device.remaining c.args.input.now) _ (g.W.Device.contents c.answer_all.new.output) _
    c.args.form c.board.result.now _
    (c.board.ensures.rules ∙ talked.rules) c.board.ensures.journal
    (all_wrote _ _ _ _ _ _ talked) (all_after _ _ _ _ _ _ talked)
    c.in-Ok-print_final.ensures.wrote

pub returns-in-Ok-print_final-clause-appendix_a : goal.returns-in-Ok-print_final-clause-appendix_a
returns-in-Ok-print_final-clause-appendix_a g c =
    let talked = c.in_default.ensures.talked in
    run_written c.args.rules.now c.args.start.now c.in-Ok.board
    (point c.new-scribe.result) c.in-Ok.ensures.board c.new-scribe.ensures
    (g.R.Device.remaining c.args.input.now) _ _ c.args.form c.board.result.now _
    (c.board.ensures.rules ∙ talked.rules) c.board.ensures.journal
    (all_after _ _ _ _ _ _ talked) c.print_final.ensures.appendix_a
    (returns-in-Ok-print_final-clause-answered g c)

pub returns-in-Ok-print_final-clause-within : goal.returns-in-Ok-print_final-clause-within
returns-in-Ok-print_final-clause-within g c =
    within_limit c.args.rules.now c.args.start.now c.in-Ok.board
    (point c.new-scribe.result) c.in-Ok.ensures.board c.new-scribe.ensures
    (g.R.Device.remaining c.args.input.now) INPUT_LIMIT c.in_default.ensures.within

pub returns-in-Ok-print_final-clause-breaks : goal.returns-in-Ok-print_final-clause-breaks
returns-in-Ok-print_final-clause-breaks g c = record {
  taken = c.in_default.ensures.breaks.taken;
  read = search rules;
  long = search rules;
  cut = search rules;
  stopped = search rules;
}

-- all was answered, and the final part wasn't made or not written
pub returns-clause-breaks : goal.returns-clause-breaks
returns-clause-breaks g c =
    let fault = c.in-Err-print_final.fault in
    let told = c.scribe_fault.result in
    let made = c.scribe_fault.ensures in
    let talked = c.in_default.ensures.talked in
    record {
      taken = c.in_default.ensures.breaks.taken;
      read = λ is. read_is_no_write fault told _ made is;
      long = λ is. long_is_no_write fault told _ made is;
      cut = λ is.
          whole_text c.args.rules.now c.args.start.now c.in-Ok.board
          (point c.new-scribe.result) c.in-Ok.ensures.board c.new-scribe.ensures AppendsPrefix
          prefix-behind (g.R.Device.remaining c.args.input.now) _
          (g.W.Device.contents c.answer_all.new.output) _ c.args.form c.board.result.now _
          (c.board.ensures.rules ∙ talked.rules) c.board.ensures.journal
          (all_wrote _ _ _ _ _ _ talked) (all_after _ _ _ _ _ _ talked)
          (c.in-Err-print_final.ensures.cut (ap Err (write_is fault told made is)));
      stopped = λ is.
          subst (λ (w : g.row.W.Denot). IfSome (g.R.Device.remaining c.args.input.now)
          (WroteSome c.args.rules.now c.args.start.now (g.W.Device.contents c.args.output.now)
          (g.W.Device.contents w)))
          (sym (c.in-Err-print_final.ensures.silent (ap Err (memory_is fault told made is))))
          (all_said c.args.rules.now c.args.start.now c.in-Ok.board
          (point c.new-scribe.result) c.in-Ok.ensures.board c.new-scribe.ensures
          _ _ _ (all_wrote _ _ _ _ _ _ talked));
    }

pub returns-clause-start : goal.returns-clause-start
returns-clause-start g c = start_stands _ c.in-Err-print_final.fault c.scribe_fault.result
    c.scribe_fault.ensures c.in-Ok.ensures.accepted

pub returns-clause-counted : goal.returns-clause-counted
returns-clause-counted g c =
    writer_failed _ _ _ (g.W.Device.failures c.answer_all.new.output) _
    c.in-Err-print_final.fault c.scribe_fault.result c.scribe_fault.ensures
    c.in_default.ensures.counted.0 c.in_default.ensures.counted.1
    c.in-Err-print_final.ensures.writes
