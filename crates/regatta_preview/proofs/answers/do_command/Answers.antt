use Rattle.std.proofs.Common.{Option, sym, ap, ◌∙◌}
use Rattle.regatta_terms.specs.declared.reply.Refusal.{Refusal}
use Rattle.regatta_talk.specs.Replies.{reply_of}
use Rattle.regatta_board.specs.Runs.{journal_by, reply_by, sent}
use Rattle.regatta_preview.specs.Boards.{talk_of}
use Rattle.regatta_preview.proofs.Refused.{due_is}
use Rattle.regatta_preview.proofs.answers.do_command.Goals as goal

pub returns-else-is_out_of_memory-clause-reply : goal.returns-else-is_out_of_memory-clause-reply
returns-else-is_out_of_memory-clause-reply c =
    let board = c.args.board.now in
    let talk = talk_of board c.args.role in
    c.reply_of-in-Err.ensures
    ∙ ap (λ (why : Option Refusal). reply_of (reply_by board.rules board.entries
    (sent talk.journal talk.role c.args.command) why)) (sym (due_is board.rules talk c.args.command _ _
    c.entry_of.ensures c.in-Err.ensures.refused
    (sym c.is_out_of_memory.ensures ∙ c.if-is_out_of_memory.false)))

pub returns-else-is_out_of_memory-clause-journal :
    goal.returns-else-is_out_of_memory-clause-journal
returns-else-is_out_of_memory-clause-journal c =
    let board = c.args.board.now in
    let talk = talk_of board c.args.role in
    let due = due_is board.rules talk c.args.command _ _ c.entry_of.ensures
    c.in-Err.ensures.refused (sym c.is_out_of_memory.ensures ∙ c.if-is_out_of_memory.false) in
    c.in-Err.ensures.err
    ∙ (λ i. record {
      rules = board.rules;
      entries = journal_by board.entries (sent talk.journal talk.role c.args.command) (sym due i);
    })
