-- What is still to come of a run, at any point of its text.
use Rattle.std.specs.Prelude.{ℕ, Bool, true, false, ◌≡◌, List, [], ◌++◌, length, take, ◌<◌}
use Rattle.std.specs.Prelude.{◌≤◌, ◌⊎◌, ◌+◌, Option, Some, None, IfSome, if◌then◌else◌, Result}
use Rattle.std.specs.Prelude.{IsErrOf}
use Rattle.std.specs.Io.KnownBytes.{Appends, Consumes}
use Rattle.regatta_streams.specs.Texts.{AppendsPrefix, GaveAtMost}
use Rattle.regatta_terms.specs.Rules.{RulesParts}
use Rattle.regatta_terms.specs.TextLines.{lines_by}
use Rattle.regatta_scores.specs.Journal.{Journal}
use Rattle.regatta_talk.specs.HeardLines.{heard_lines}
use Rattle.regatta_office.specs.declared.run.RunFault.{RunFault}
use Rattle.regatta_office.specs.declared.run.RunFault.TheVariants.{Read, Write, InputTooLong}
use Rattle.regatta_office.specs.declared.run.RunFault.TheVariants.{NoMemory}
use Rattle.regatta_office.specs.Transcript.{Talk, has_quit, opening, up_to_quit, replies}
use Rattle.regatta_office.specs.Transcript.{talk_at_end}

-- a point of a run: the series rules, the state of the run, and the buffered part of the current
-- line
pub record Point : Type 0 where
  pub rules : RulesParts
  pub talk : Talk
  pub line : List ℕ

-- what a run writes, the journal at its end, and whether a QUIT ends it
pub record Said : Type 0 where
  pub text : List ℕ
  pub journal : Journal
  pub quit : Bool

-- the same, preceded by a text
abbrev pub ahead : List ℕ → Said → Said
ahead text said = record { text = text ++ said.text; journal = said.journal; quit = said.quit }

-- the answers to these lines
abbrev pub said : RulesParts → Talk → List (List ℕ) → Said
said rules talk lines = record {
  text = replies rules talk (up_to_quit lines);
  journal = (talk_at_end rules talk (up_to_quit lines)).journal;
  quit = has_quit lines;
}

-- what is still to come for the rest of the text
abbrev pub coming : Point → Bool → List ℕ → Said
coming point counts text = said point.rules point.talk (heard_lines counts point.line text)

-- the answers to the lines of a text, from a journal on
abbrev pub said_from : RulesParts → Journal → Bool → List ℕ → Said
said_from rules start counts text = said rules (opening start) (lines_by counts text)

-- nothing is to come
abbrev pub ended : Bool → Point → Said
ended quit point = record { text = []; journal = point.talk.journal; quit = quit }

-- nothing if a QUIT has ended the run, otherwise what is still to come
abbrev pub unless : Bool → Bool → Point → List ℕ → Said
unless quit counts point text = if quit then ended true point else coming point counts text

-- what a writer took for some bytes of the text; whatever follows them, the rest of the run is what
-- was still to come
pub record Went (old new : Option (List ℕ)) (bytes : List ℕ) (before after : Point)
    (quit : Bool) : Type 0 where
  pub written : List ℕ
  pub wrote : Appends old new written
  pub rules : after.rules ≡ before.rules
  pub goes : (counts : Bool) (rest : List ℕ)
      → coming before counts (bytes ++ rest) ≡ ahead written (unless quit counts after rest)

-- what a writer took for the first n bytes of a piece, or for all of it if a QUIT ended the run
abbrev pub Took : Option (List ℕ) → Option (List ℕ) → List ℕ → Point → Point → Option ℕ → Type 0
Took old new piece before after (Some n) = Went old new (take n piece) before after false
Took old new piece before after None = Went old new piece before after true

-- a number of bytes of a piece, at least one, or its end
abbrev pub IsPart : List ℕ → Option ℕ → Type 0
IsPart piece count = IfSome count (λ n. (0 < n) × (n ≤ length piece))

-- what a writer took for some first bytes of a piece, after which the run broke off
pub record Broke (old new : Option (List ℕ)) (piece : List ℕ) (before : Point) : Type 0 where
  pub count : ℕ
  pub after : Point
  pub went : Went old new (take count piece) before after false

-- what a writer took at the end of a text
pub record Finished (old new : Option (List ℕ)) (before after : Point) : Type 0 where
  pub written : List ℕ
  pub wrote : Appends old new written
  pub rules : after.rules ≡ before.rules
  pub quit : Bool
  pub says : coming before true [] ≡ ahead written (ended quit after)

-- what a reader gave and a writer took for it: a number of bytes while the run goes on, or all of
-- the text at its end
pub record Talked (in-old in-new out-old out-new : Option (List ℕ)) (before after : Point)
    (count : Option ℕ) : Type 0 where
  pub given : List ℕ
  pub took : Consumes in-old in-new given
  pub written : List ℕ
  pub wrote : Appends out-old out-new written
  pub rules : after.rules ≡ before.rules
  pub goes : (n : ℕ) → count ≡ Some n → (length given ≡ n) × ((counts : Bool) (rest : List ℕ)
      → coming before counts (given ++ rest) ≡ ahead written (coming after counts rest))
  pub ends : count ≡ None → IfSome in-new (λ rest. (quit : Bool)
      × (coming before true (given ++ rest) ≡ ahead written (ended quit after)))

-- a writer took some first part of what is to come of a text
abbrev pub Cuts : Option (List ℕ) → Option (List ℕ) → Point → List ℕ → Type 0
Cuts old new before text = AppendsPrefix old new (coming before true text).text

-- ---- what a run, or a part of it, leaves at a fault: `says` is what it was to write for a text, by
-- whether a last line without LF counts

-- a writer took the text for the lines that end within some first part of a text
abbrev pub StopsBy : (Bool → List ℕ → Said) → Option (List ℕ) → Option (List ℕ) → List ℕ → Type 0
StopsBy says old new text = (n : ℕ) × Appends old new (says false (take n text)).text

abbrev pub Stops : Option (List ℕ) → Option (List ℕ) → Point → List ℕ → Type 0
Stops old new before text = StopsBy (coming before) old new text

-- a text is longer than `most` bytes: the lines that end within these are answered, and no QUIT is
-- among them
pub record IsTooLong (old new : Option (List ℕ)) (says : Bool → List ℕ → Said) (most : ℕ)
    (text : List ℕ) : Type 0 where
  pub long : most < length text
  pub quit : (says false (take most text)).quit ≡ false
  pub wrote : Appends old new (says false (take most text)).text

-- a text ends within `most` bytes, or a QUIT does
abbrev pub IsWithin : (Bool → List ℕ → Said) → ℕ → List ℕ → Type 0
IsWithin says most text =
    (length text ≤ most) ⊎ ((says false (take most text)).quit ≡ true)

-- what a reader gave before it broke off, and a writer took for it
abbrev pub ReadSome : Option (List ℕ) → Option (List ℕ) → Option (List ℕ) → Option (List ℕ)
    → (List ℕ → List ℕ) → Type 0
ReadSome in-old in-new out-old out-new text_for =
    (given : List ℕ) × Consumes in-old in-new given × Appends out-old out-new (text_for given)

-- all that is written for a text: what is said of its lines, and then what follows for the journal at
-- their end, if anything does
abbrev pub with_final : Option (Journal → List ℕ) → Said → List ℕ
with_final None said = said.text
with_final (Some final) said = said.text ++ final said.journal

-- a writer took the text for some first lines; for all of them only if something was to follow
abbrev pub StopsBefore : Option (Journal → List ℕ) → (Bool → List ℕ → Said) → Option (List ℕ)
    → Option (List ℕ) → List ℕ → Type 0
StopsBefore None says old new text = StopsBy says old new text
StopsBefore (Some final) says old new text =
    StopsBy says old new text ⊎ Appends old new (says true text).text

-- at most one byte more than `most` was read. At a fault the lines that had ended, within these bytes,
-- were answered; after a failed write some first part of all that was to be written is there, and out
-- of memory the text for some first lines
pub record BreaksOff {A : Type 0} (says : Bool → List ℕ → Said) (final : Option (Journal → List ℕ))
    (most : ℕ) (in-old in-new out-old out-new : Option (List ℕ)) (result : Result A RunFault) : Type 0
  where
    pub taken : GaveAtMost (most + 1) in-old in-new
    pub read : IsErrOf result Read
        → ReadSome in-old in-new out-old out-new (λ given. (says false given).text)
    pub long : IsErrOf result InputTooLong → IfSome in-old (IsTooLong out-old out-new says most)
    pub cut : IsErrOf result Write
        → IfSome in-old (λ text. AppendsPrefix out-old out-new (with_final final (says true text)))
    pub stopped : IsErrOf result NoMemory
        → IfSome in-old (StopsBefore final says out-old out-new)
