-- The parts of a turn: what it writes, and what it leaves.
use Rattle.std.specs.Prelude.{ℕ, Bool, true, false, List, Result}
use Rattle.regatta_terms.specs.Rules.{RulesParts}
use Rattle.regatta_terms.specs.declared.command.Command.{Command}
use Rattle.regatta_terms.specs.declared.line.Line.{Line}
use Rattle.regatta_terms.specs.declared.line.LineFault.{LineFault}
use Rattle.regatta_terms.specs.declared.reply.Refusal.{Refusal}
use Rattle.regatta_terms.specs.declared.reply.Refusal.TheVariants.{NoMemory}
use Rattle.regatta_terms.specs.declared.reply.Reply.{Reply}
use Rattle.regatta_scores.specs.Journal.{Journal}
use Rattle.regatta_board.specs.Refusals.{limits, refusal}
use Rattle.regatta_board.specs.Runs.{journal_by, reply_by, sent}
use Rattle.regatta_talk.specs.Replies.{reply_of}
use Rattle.regatta_office.specs.Transcript.{Talk, turn}

-- the text to write for a line, or for its fault
abbrev pub text_after : RulesParts → Talk → Result Line LineFault → List ℕ
text_after rules talk asked = (turn rules talk asked).0

-- the state of the run after it
abbrev pub talk_after : RulesParts → Talk → Result Line LineFault → Talk
talk_after rules talk asked = (turn rules talk asked).1

-- the reply to a command
abbrev pub reply_to : RulesParts → Talk → Command → Reply
reply_to rules talk command =
    let entry = sent talk.journal talk.role command in
    reply_of (reply_by rules talk.journal entry (refusal limits rules talk.journal entry))

-- the journal after a command
abbrev pub journal_after : RulesParts → Talk → Command → Journal
journal_after rules talk command =
    let entry = sent talk.journal talk.role command in
    journal_by talk.journal entry (refusal limits rules talk.journal entry)

-- running out of memory ends a run: it has no reply
abbrev pub is_out_of_memory : Refusal → Bool
is_out_of_memory NoMemory = true
is_out_of_memory _ = false
