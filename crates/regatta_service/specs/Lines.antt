-- The replies to the lines of a session.
use Rattle.std.specs.Prelude.{◌≡◌, ℕ, true, List, [], ◌++◌, Option, All}
use mathlib.Core.List.{IsPrefix}
use Rattle.std.specs.Io.KnownBytes.{Appends}
use Rattle.regatta_terms.specs.Rules.{RulesParts}
use Rattle.regatta_terms.specs.declared.command.Role.{Role}
use Rattle.regatta_terms.specs.declared.reply.Reply.{Reply}
use Rattle.regatta_board.specs.Refusals.{limits, is_lawful}
use Rattle.regatta_tables.specs.ReplyTexts.{reply_text}
use Rattle.regatta_streams.specs.Texts.{AppendsPrefix}
use Rattle.regatta_talk.specs.Replies.{role_after}
use Rattle.regatta_talk.specs.declared.asked.AskedLine.{AskedLine}
use Rattle.regatta_talk.specs.declared.asked.AskedLine.TheVariants.{Desk, Apart}
use Rattle.regatta_talk.specs.declared.asked.DeskLine.{DeskLine}
use Rattle.regatta_scores.specs.Journal.{Journal}
use Rattle.regatta_keeper.specs.Sealing.{IsNoted, Needs}
use Rattle.regatta_keeper.specs.declared.need.Need.{Need}
use Rattle.regatta_desk.specs.Desks.{DeskValue}
use Rattle.regatta_desk.specs.Passes.{PassValue, with_told}
use Rattle.regatta_desk.specs.Replies.{DeskReplies, RepliesApart, Shows}

-- a line that a desk answered for a pass in this role: the desk did what the line asks, and its reply
-- is appended. The journal that the desk had is lawful, and begins with the journal that the pass has
-- seen and with each that it was told of; the pass was told of it before the answer. The desk then has
-- the journal `made_from`
pub record DeskAnswers (rules : RulesParts) (line : DeskLine) (role : Role) (before after : PassValue)
    (old new : List ℕ) (made_from : Journal) : Type 0 where
  pub found : DeskValue
  pub left : DeskValue
  pub reply : Reply
  pub lawful : is_lawful limits rules found.entries ≡ true
  pub seen : IsPrefix before.seen found.entries
  pub told : All (λ j. IsPrefix j found.entries) before.told
  pub replied : DeskReplies rules line role found left (with_told before found.entries) after reply
  pub text : new ≡ old ++ reply_text reply
  pub made : left.entries ≡ made_from

-- the text appended for a line of a session, what the line changes of the pass, and the journal that
-- the answer was made from: a desk's answer is made from the journal that it then has, a sheet from the
-- journal that it shows, and any other answer from no entry
abbrev pub Answers : RulesParts → AskedLine → Role → PassValue → PassValue → List ℕ → List ℕ
    → Journal → Type 0
Answers rules (Desk line) role before after old new made_from =
    DeskAnswers rules line role before after old new made_from
Answers rules AskedLine.Show role before after old new made_from =
    Shows rules before after old new × (made_from ≡ after.seen)
Answers rules (Apart line) role before after old new made_from =
    RepliesApart line before after old new × (made_from ≡ [])

-- a line that was answered, and a reply with this text and this need: if there is a book of what is
-- kept, the need begins with the journal that the answer was made from
pub record Prepared {N : Type 0} (rules : RulesParts) (asked : AskedLine) (role : Role)
    (before after : PassValue) (text : List ℕ) (need : Need N) (book : Option (List Journal))
    : Type 0 where
  pub made_from : Journal
  pub answered : Answers rules asked role before after [] text made_from
  pub needs : Needs book need made_from

-- a line that was answered in this role, and the state after it: the role of the next lines, the
-- pass, the stream, to which exactly the reply was written, and the book of what is kept, if there
-- is one: it was told of one more journal, which begins with the one that the reply was made from
pub record Replied (rules : RulesParts) (asked : AskedLine) (role later : Role)
    (before after : PassValue) (old new : Option (List ℕ)) (book noted : Option (List Journal))
    : Type 0 where
  pub text : List ℕ
  pub made_from : Journal
  pub answered : Answers rules asked role before after [] text made_from
  pub role_set : later ≡ role_after asked role
  pub kept : IsNoted (IsPrefix made_from) book noted
  pub wrote : Appends old new text

-- a line that was answered so, where a write failed: a beginning of its reply was written, and not
-- all of it
pub record CutOff (rules : RulesParts) (asked : AskedLine) (role later : Role)
    (before after : PassValue) (old new : Option (List ℕ)) (book noted : Option (List Journal))
    : Type 0 where
  pub text : List ℕ
  pub made_from : Journal
  pub answered : Answers rules asked role before after [] text made_from
  pub role_set : later ≡ role_after asked role
  pub kept : IsNoted (IsPrefix made_from) book noted
  pub wrote : AppendsPrefix old new text

-- a line that was answered so, whose reply stays sealed
pub record Unsaid (rules : RulesParts) (asked : AskedLine) (role later : Role)
    (before after : PassValue) : Type 0 where
  pub text : List ℕ
  pub made_from : Journal
  pub answered : Answers rules asked role before after [] text made_from
  pub role_set : later ≡ role_after asked role
