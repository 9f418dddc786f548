-- The replies to the lines of a session, and what each line changes.
use Rattle.std.specs.Prelude.{◌≡◌, ◌⊎◌, ℕ, true, List, [], ◌∷◌, ◌++◌, None, Ok, Err, All}
use mathlib.Core.List.{IsPrefix}
use Rattle.regatta_terms.specs.Rules.{RulesParts}
use Rattle.regatta_terms.specs.declared.command.Command.{Command}
use Rattle.regatta_terms.specs.declared.command.Role.{Role}
use Rattle.regatta_terms.specs.declared.reply.Refusal.{Refusal}
use Rattle.regatta_terms.specs.declared.reply.Refusal.TheVariants.{NoMemory}
use Rattle.regatta_terms.specs.declared.reply.Reply.{Reply}
use Rattle.regatta_terms.specs.declared.reply.Reply.TheVariants.{Closed, Refused}
use Rattle.regatta_terms.specs.declared.sail.Sail.{Sail}
use Rattle.regatta_scores.specs.declared.table.Standing.{Standing}
use Rattle.regatta_scores.specs.AppendixA.{IsAppendixA}
use Rattle.regatta_scores.specs.Journal.{Journal}
use Rattle.regatta_scores.specs.Standing.{standing}
use Rattle.regatta_board.specs.Answers.{answer, rank_of}
use Rattle.regatta_board.specs.Refusals.{limits, refusal, is_lawful, IsRefusal}
use Rattle.regatta_tables.specs.ReplyTexts.{reply_text}
use Rattle.regatta_tables.specs.SheetTexts.{sheet_text}
use Rattle.regatta_talk.specs.Replies.{ranked, reply_apart, reply_of}
use Rattle.regatta_talk.specs.declared.asked.ApartLine.{ApartLine}
use Rattle.regatta_talk.specs.declared.asked.AskedLine.{AskedLine}
use Rattle.regatta_talk.specs.declared.asked.AskedLine.TheVariants.{Desk, Apart}
use Rattle.regatta_talk.specs.declared.asked.DeskLine.{DeskLine}
use Rattle.regatta_talk.specs.declared.asked.DeskLine.TheVariants.{Do, Rank}
use Rattle.regatta_desk.specs.Desks.{DeskValue, desk_with}
use Rattle.regatta_desk.specs.Passes.{PassValue, entry_of, with_run}

-- ---- under the lock

-- a command that was run: its entry is in the journal and published, the pass has learnt it, and
-- its answer is the reply
pub record RanCommand (rules : RulesParts) (role : Role) (command : Command) (old new : DeskValue)
    (before after : PassValue) (reply : Reply) : Type 0 where
  pub accepted : refusal limits rules old.entries (entry_of before role command) ≡ None
  pub desk : new ≡ desk_with old (entry_of before role command)
  pub pass : after ≡ with_run before (entry_of before role command) new.entries
  pub answered : reply ≡ reply_of (Ok (answer rules old.entries (entry_of before role command)))

-- a command that was refused: nothing has changed
pub record RefusedCommand (rules : RulesParts) (role : Role) (command : Command) (old new : DeskValue)
    (before after : PassValue) (reply : Reply) : Type 0 where
  pub why : Refusal
  pub due : IsRefusal (refusal limits rules old.entries (entry_of before role command)) why
  pub desk : new ≡ old
  pub pass : after ≡ before
  pub answered : reply ≡ reply_of (Err why)

-- a command: it was run, or refused
abbrev pub DidCommand : RulesParts → Role → Command → DeskValue → DeskValue → PassValue → PassValue
    → Reply → Type 0
DidCommand rules role command old new before after reply =
    RanCommand rules role command old new before after reply
    ⊎ RefusedCommand rules role command old new before after reply

-- a boat that was looked up: nothing has changed
abbrev pub Ranked : RulesParts → Sail → DeskValue → DeskValue → PassValue → PassValue → Reply → Type 0
Ranked rules sail old new before after reply =
    (new ≡ old) × (after ≡ before) × (reply ≡ ranked (rank_of rules old.entries sail))

-- the reply to a line that the desk answers, and what the line changes of desk and pass
abbrev pub DeskReplies : RulesParts → DeskLine → Role → DeskValue → DeskValue → PassValue → PassValue
    → Reply → Type 0
DeskReplies rules (Do command) role old new before after reply =
    DidCommand rules role command old new before after reply
DeskReplies rules (Rank sail) role old new before after reply =
    Ranked rules sail old new before after reply

-- the reply appended for such a line; for other lines nothing is done
abbrev pub DeskAppends : RulesParts → AskedLine → Role → DeskValue → DeskValue → PassValue → PassValue
    → List ℕ → List ℕ → Type 0
DeskAppends rules (Desk line) role old new before after text longer =
    (reply : Reply) × DeskReplies rules line role old new before after reply
    × (longer ≡ text ++ reply_text reply)
DeskAppends rules AskedLine.Show role old new before after text longer =
    (new ≡ old) × (after ≡ before) × (longer ≡ text)
DeskAppends rules (Apart line) role old new before after text longer =
    (new ≡ old) × (after ≡ before) × (longer ≡ text)

-- ---- by a pass alone

-- a journal that a pass may be shown
pub record MayShow (rules : RulesParts) (pass : PassValue) (journal : Journal) : Type 0 where
  pub lawful : is_lawful limits rules journal ≡ true
  pub seen : IsPrefix pass.seen journal
  pub told : All (λ j. IsPrefix j journal) pass.told

-- the sheet of such a journal, with the table that fits Appendix A, its standing: the pass has now
-- seen it
pub record ShowsSheet (rules : RulesParts) (before after : PassValue) (old new : List ℕ)
    : Type 0 where
  pub journal : Journal
  pub may : MayShow rules before journal
  pub pass : after ≡ record before { seen = journal }
  pub table : Standing
  pub appendix_a : IsAppendixA rules journal table
  pub computed : table ≡ standing rules journal
  pub text : new ≡ old ++ sheet_text journal table

-- a sheet without memory for its text: the pass has seen it, and the reply is a refusal
pub record SawSheet (rules : RulesParts) (before after : PassValue) (old new : List ℕ)
    : Type 0 where
  pub journal : Journal
  pub may : MayShow rules before journal
  pub pass : after ≡ record before { seen = journal }
  pub text : new ≡ old ++ reply_text (Refused NoMemory)

-- no sheet: the pass is as it was
abbrev pub ShowsNone : PassValue → PassValue → List ℕ → List ℕ → Type 0
ShowsNone before after old new =
    (after ≡ before)
    × ((new ≡ old ++ reply_text Closed) ⊎ (new ≡ old ++ reply_text (Refused NoMemory)))

-- the text appended for SHOW, and what it changes of the pass
abbrev pub Shows : RulesParts → PassValue → PassValue → List ℕ → List ℕ → Type 0
Shows rules before after old new =
    ShowsSheet rules before after old new
    ⊎ (SawSheet rules before after old new ⊎ ShowsNone before after old new)

-- a line that asks nothing of the board: the pass is as it was
abbrev pub RepliesApart : ApartLine → PassValue → PassValue → List ℕ → List ℕ → Type 0
RepliesApart line before after old new =
    (after ≡ before) × (new ≡ old ++ reply_text (reply_apart line))

-- the text appended for a line by a pass without the desk; for the desk's lines nothing is done
abbrev pub PassAppends : RulesParts → AskedLine → PassValue → PassValue → List ℕ → List ℕ → Type 0
PassAppends rules (Desk line) before after old new = (after ≡ before) × (new ≡ old)
PassAppends rules AskedLine.Show before after old new = Shows rules before after old new
PassAppends rules (Apart line) before after old new = RepliesApart line before after old new
