-- Lines taken one after another: the reply to each, and the journal after them.
use Rattle.std.specs.Prelude.{ℕ, List, [], ◌∷◌, Option, length}
use Rattle.regatta_terms.specs.Lines.{line_of}
use Rattle.regatta_terms.specs.Rules.{RulesParts}
use Rattle.regatta_terms.specs.declared.command.Command.{Command}
use Rattle.regatta_terms.specs.declared.command.Role.{Role}
use Rattle.regatta_terms.specs.declared.reply.Refusal.{Refusal}
use Rattle.regatta_terms.specs.declared.reply.Reply.{Reply}
use Rattle.regatta_scores.specs.Journal.{Journal}
use Rattle.regatta_board.specs.Answers.{rank_of}
use Rattle.regatta_board.specs.Refusals.{limits, refusal}
use Rattle.regatta_board.specs.Runs.{journal_by, reply_by, sent}
use Rattle.regatta_talk.specs.Replies.{asked_line, next_after, ranked, reply_apart, reply_of}
use Rattle.regatta_talk.specs.Replies.{role_after}
use Rattle.regatta_talk.specs.declared.asked.AskedLine.{AskedLine}
use Rattle.regatta_talk.specs.declared.asked.AskedLine.TheVariants.{Desk, Show, Apart}
use Rattle.regatta_talk.specs.declared.asked.DeskLine.{DeskLine}
use Rattle.regatta_talk.specs.declared.asked.DeskLine.TheVariants.{Do, Rank}
use Rattle.regatta_talk.specs.declared.asked.Next.{Next}
use Rattle.regatta_talk.specs.declared.asked.Next.TheVariants.{Go, End}
use Rattle.regatta_preview.specs.declared.parts.LineReply.{LineReply}
use Rattle.regatta_preview.specs.declared.parts.LineReply.TheVariants.{Short, Sheet}

-- the role of the next line, and the journal so far
pub record Talk : Type 0 where
  pub role : Role
  pub journal : Journal

-- the replies to lines, and the journal after them
pub record Talked : Type 0 where
  pub replies : List LineReply
  pub journal : Journal

-- the same, preceded by replies
abbrev pub preceded_by : List LineReply → Talked → Talked
preceded_by [] talked = talked
preceded_by (reply ∷ replies) talked =
    let rest = preceded_by replies talked in
    record { replies = reply ∷ rest.replies; journal = rest.journal }

-- what comes of the lines after a line: nothing if it ends the session
abbrev pub unless_ended : Next → Journal → Talked → Talked
unless_ended Go journal rest = rest
unless_ended End journal rest = record { replies = []; journal = journal }

module _ (rules : RulesParts) where
  -- ---- one line

  -- the refusal that applies to a command, if any
  abbrev pub refusal_of : Talk → Command → Option Refusal
  refusal_of talk command = refusal limits rules talk.journal (sent talk.journal talk.role command)

  -- the reply to a line that the desk answers in a session
  abbrev pub desk_reply : Talk → DeskLine → Reply
  desk_reply talk (Do command) = reply_of (reply_by rules talk.journal
      (sent talk.journal talk.role command) (refusal_of talk command))
  desk_reply talk (Rank sail) = ranked (rank_of rules talk.journal sail)

  -- the reply to a line
  abbrev pub reply_to : Talk → AskedLine → LineReply
  reply_to talk (Desk line) = Short (desk_reply talk line)
  reply_to talk Show = Sheet (length talk.journal)
  reply_to talk (Apart line) = Short (reply_apart line)

  -- the journal after a line that the desk answers: a refused command leaves no trace
  abbrev pub desk_journal : Talk → DeskLine → Journal
  desk_journal talk (Do command) =
      journal_by talk.journal (sent talk.journal talk.role command) (refusal_of talk command)
  desk_journal talk (Rank sail) = talk.journal

  -- the journal after a line
  abbrev pub journal_after : Talk → AskedLine → Journal
  journal_after talk (Desk line) = desk_journal talk line
  journal_after talk Show = talk.journal
  journal_after talk (Apart line) = talk.journal

  -- role and journal after a line
  abbrev pub talk_after : Talk → AskedLine → Talk
  talk_after talk asked =
      record { role = role_after asked talk.role; journal = journal_after talk asked }

  -- ---- all lines

  -- the replies to lines, up to the first QUIT, and the journal after them
  unfoldable pub talked : Talk → List (List ℕ) → Talked
  talked talk [] = record { replies = []; journal = talk.journal }
  talked talk (line ∷ lines) =
      let asked = asked_line (line_of line) in
      let after = talk_after talk asked in
      preceded_by (reply_to talk asked ∷ [])
      (unless_ended (next_after asked) after.journal (talked after lines))
