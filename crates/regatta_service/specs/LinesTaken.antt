-- How far the lines of a session have come.
use Rattle.std.specs.Prelude.{◌≡◌, List, [], ◌∷◌, ◌++◌, ℕ, Option, Result, Ok, Err, false, map, All}
use Rattle.std.specs.Io.KnownBytes.{Consumes, Keeps}
use Rattle.regatta_terms.specs.Lines.{line_of}
use Rattle.regatta_terms.specs.Rules.{RulesParts}
use Rattle.regatta_terms.specs.TextLines.{ended_lines}
use Rattle.regatta_terms.specs.declared.command.Role.{Role}
use Rattle.regatta_talk.specs.HeardLines.{heard_lines}
use Rattle.regatta_talk.specs.Replies.{asked_line, next_after}
use Rattle.regatta_talk.specs.declared.asked.AskedLine.{AskedLine}
use Rattle.regatta_talk.specs.declared.asked.Next.{Next}
use Rattle.regatta_scores.specs.Journal.{Journal}
use Rattle.regatta_desk.specs.Passes.{PassValue}
use Rattle.regatta_service.specs.Lines.{CutOff, Replied, Unsaid}
use Rattle.regatta_service.specs.declared.sessions.End.{End}

-- the state of a session: the role of the next lines, the pass, what was written, and the book of
-- journals that are kept, in the order in which the session was told of them, if it has a book
pub record Point : Type 0 where
  pub role : Role
  pub pass : PassValue
  pub written : Option (List ℕ)
  pub book : Option (List Journal)

abbrev pub point : Role → PassValue → Option (List ℕ) → Option (List Journal) → Point
point role pass written book =
    record { role = role; pass = pass; written = written; book = book }

-- nothing was done: role, pass and book are as they were, and nothing was written
pub record Stays (before after : Point) : Type 0 where
  pub role : after.role ≡ before.role
  pub pass : after.pass ≡ before.pass
  pub written : Keeps before.written after.written
  pub book : after.book ≡ before.book

-- ---- what lines ask for

-- what a line asks for, by who answers it
abbrev pub asks : List ℕ → AskedLine
asks line = asked_line (line_of line)

-- what the lines ask for that have ended in a text: not a last piece, which no LF ends
abbrev pub asked_in : List ℕ → List AskedLine
asked_in text = map asks (ended_lines text)

-- the same of some bytes that continue a line, by what is kept of each line
abbrev pub asked_from : List ℕ → List ℕ → List AskedLine
asked_from line bytes = map asks (heard_lines false line bytes)

-- a line after which the session goes on: any except QUIT
abbrev pub GoesOn : AskedLine → Type 0
GoesOn asked = next_after asked ≡ Next.Go

-- ---- what was done with a line

-- it was answered, and exactly its reply was written
abbrev pub IsReplied : RulesParts → AskedLine → Point → Point → Type 0
IsReplied rules asked before after =
    Replied rules asked before.role after.role before.pass after.pass before.written after.written
    before.book after.book

-- it was answered, and a write failed: a beginning of its reply was written, and not all of it
abbrev pub IsCutOff : RulesParts → AskedLine → Point → Point → Type 0
IsCutOff rules asked before after =
    CutOff rules asked before.role after.role before.pass after.pass before.written after.written
    before.book after.book

-- it was answered, and its reply stays sealed: nothing was written
abbrev pub IsUnsaid : RulesParts → AskedLine → Point → Point → Type 0
IsUnsaid rules asked before after =
    Unsaid rules asked before.role after.role before.pass after.pass
    × Keeps before.written after.written × (after.book ≡ before.book)

-- it is QUIT, and was answered
abbrev pub IsQuit : RulesParts → AskedLine → Point → Point → Type 0
IsQuit rules asked before after = (next_after asked ≡ Next.End) × IsReplied rules asked before after

-- nothing
abbrev pub IsPassedOver : AskedLine → Point → Point → Type 0
IsPassedOver asked before after = Stays before after

-- what was done with one, by whether the session goes on or how it ended
abbrev pub DidLine : {A : Type 0} → RulesParts → Result A End → AskedLine → Point → Point → Type 0
DidLine rules (Ok room) asked before after = GoesOn asked × IsReplied rules asked before after
DidLine rules (Err End.Quit) asked before after = IsQuit rules asked before after
DidLine rules (Err End.WriteFault) asked before after = IsCutOff rules asked before after
DidLine rules (Err End.Stopped) asked before after = IsPassedOver asked before after
DidLine rules (Err End.NotKept) asked before after = IsUnsaid rules asked before after
DidLine rules (Err End.Closed) asked before after = ⊥
DidLine rules (Err End.ReadFault) asked before after = ⊥
DidLine rules (Err End.NoMemory) asked before after = ⊥

-- ---- what was done with lines

-- they were answered one after another, each once, in the role that those before it set, and exactly
-- their replies were written
abbrev pub AreReplied : RulesParts → List AskedLine → Point → Point → Type 0
AreReplied rules [] before after = Stays before after
AreReplied rules (asked ∷ more) before after =
    (between : Point) × IsReplied rules asked before between × AreReplied rules more between after

-- all were answered, and none of them is QUIT
pub record AllReplied (rules : RulesParts) (asked : List AskedLine) (before after : Point) : Type 0
  where
    pub going : All GoesOn asked
    pub answered : AreReplied rules asked before after

-- those before one were answered, and none of them is QUIT; with that one this was done, and nothing
-- with those after it
pub record EndedAt (Did : AskedLine → Point → Point → Type 0) (rules : RulesParts) (asked : List AskedLine)
    (before after : Point) : Type 0 where
  pub lines : List AskedLine
  pub going : All GoesOn lines
  pub last : AskedLine
  pub unanswered : List AskedLine
  pub cut : asked ≡ lines ++ last ∷ unanswered
  pub between : Point
  pub answered : AreReplied rules lines before between
  pub did : Did last between after

-- what was done with the lines, by how the session ended
abbrev pub Took : RulesParts → End → List AskedLine → Point → Point → Type 0
Took rules End.Closed asked before after = AllReplied rules asked before after
Took rules End.ReadFault asked before after = AllReplied rules asked before after
Took rules End.Quit asked before after = EndedAt (IsQuit rules) rules asked before after
Took rules End.WriteFault asked before after = EndedAt (IsCutOff rules) rules asked before after
Took rules End.Stopped asked before after = EndedAt IsPassedOver rules asked before after
Took rules End.NotKept asked before after = EndedAt (IsUnsaid rules) rules asked before after
Took rules End.NoMemory asked before after = (asked ≡ []) × Stays before after

-- some bytes that continue a line: the lines that ended in them were answered, and none is QUIT; the
-- session goes on with the line `later`
pub record WentOn (rules : RulesParts) (line bytes : List ℕ) (before : Point) (later : List ℕ)
    (after : Point) : Type 0 where
  pub lines : List AskedLine
  pub going : All GoesOn lines
  pub cut : (rest : List ℕ) → asked_from line (bytes ++ rest) ≡ lines ++ asked_from later rest
  pub answered : AreReplied rules lines before after

-- ---- a whole session

-- what was done with the bytes that a stream gave: the lines that ended in them were answered as the
-- session's end says, starting in the scorer's role
pub record Talked (rules : RulesParts) (end : End) (to_read left : Option (List ℕ))
    (before after : PassValue) (old new : Option (List ℕ)) (book noted : Option (List Journal))
    : Type 0 where
  pub given : List ℕ
  pub consumed : Consumes to_read left given
  pub role : Role
  pub took : Took rules end (asked_in given) (point Role.Scorer before old book)
      (point role after new noted)
