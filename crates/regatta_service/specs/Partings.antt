-- How a client was parted with.
use Rattle.std.specs.Prelude.{◌≡◌, ◌≢◌, ◌+◌, ◌⊎◌, ℕ, Bool, true, List, Option}
use Rattle.std.specs.Io.KnownBytes.{Appends, IsAtEnd, Keeps}
use Rattle.regatta_terms.specs.Rules.{RulesParts}
use Rattle.regatta_terms.specs.declared.reply.Reply.TheVariants.{Busy}
use Rattle.regatta_streams.specs.Texts.{AppendsPrefix}
use Rattle.regatta_tables.specs.ReplyTexts.{reply_text}
use Rattle.regatta_scores.specs.Journal.{Journal}
use Rattle.regatta_desk.specs.Passes.{PassValue}
use Rattle.regatta_service.specs.Ends.{failed_reads_in, failures_in}
use Rattle.regatta_service.specs.LinesTaken.{Talked}
use Rattle.regatta_service.specs.declared.sessions.End.{End}

-- a session took the stream from its state `given` to `left`, and the pass, whose seat stays, from
-- `before` to `after`, as the session's end says, also of the failed calls of the stream. A session with a
-- book of what is kept took the book from `book` to `noted`, and only one that was refused a cover left a
-- reply sealed
pub record IsSession {S : Type 0} (rules : RulesParts) (remaining contents : S → Option (List ℕ))
    (failures failed_reads : S → ℕ) (given left : S) (before after : PassValue)
    (book noted : Option (List Journal)) (refused : Bool) (end : End) : Type 0 where
  pub failed : failures left ≡ failures given + failures_in end
  pub reads : failed_reads left ≡ failed_reads given + failed_reads_in end
  pub closed : end ≡ End.Closed → IsAtEnd (remaining left)
  pub talked : Talked rules end (remaining given) (remaining left) before after (contents given)
      (contents left) book noted
  pub sealed : end ≡ End.NotKept → refused ≡ true
  pub seat : after.seat ≡ before.seat

-- a session for which there was memory for replies
pub record IsServed {S : Type 0} (rules : RulesParts) (remaining contents : S → Option (List ℕ))
    (failures failed_reads : S → ℕ) (given left : S) (before after : PassValue)
    (book noted : Option (List Journal)) (refused : Bool) (end : End) : Type 0 where
  pub session : IsSession rules remaining contents failures failed_reads given left before after
      book noted refused end
  pub room : end ≢ End.NoMemory

-- the client was told that there is no seat, or a write failed and they were told a beginning of
-- that; nothing was read
pub record IsTurnedAway {S : Type 0} (remaining contents : S → Option (List ℕ))
    (failures failed_reads : S → ℕ) (given left : S) : Type 0 where
  pub wrote : ((failures left ≡ failures given)
      × Appends (contents given) (contents left) (reply_text Busy))
      ⊎ ((failures left ≡ failures given + 1)
      × AppendsPrefix (contents given) (contents left) (reply_text Busy))
  pub keeps : Keeps (remaining given) (remaining left)
  pub no_read : failed_reads left ≡ failed_reads given
