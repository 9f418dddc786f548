-- Bytes that a session takes: one more, the end of a line, and one piece after another.
use Rattle.std.proofs.Common.{◌≡◌, ◌≢◌, ◌∷◌, ◌++◌, ◌+◌, ◌<◌, ◌∙◌, [], ℕ, List, Result, Err}
use Rattle.std.proofs.Common.{true, false, refl, map}
use Rattle.std.proofs.Common.{ap, sym}
use Rattle.std.proofs.Common.{append-nil, append_assoc, drop, get_or, length, subst, take}
use Rattle.std.proofs.lemmas.List.{take-append-drop, take_more}
use Rattle.std.proofs.lemmas.List.Elements.{All-append, All-nil, All-push}
use Rattle.regatta_terms.specs.Rules.{RulesParts}
use Rattle.regatta_terms.specs.TextLines.{ended_lines, is_line_end, lines_of_pieces}
use Rattle.regatta_talk.specs.HeardLines.{heard, heard_lines, heard_with}
use Rattle.regatta_talk.proofs.HeardLines.{heard_byte, heard_end, heard_of_text, heard_reads}
use Rattle.regatta_service.specs.LinesTaken.{AllReplied, AreReplied, DidLine, EndedAt, GoesOn}
use Rattle.regatta_service.specs.LinesTaken.{IsCutOff, IsPassedOver, IsQuit, IsReplied, IsUnsaid, Point}
use Rattle.regatta_service.specs.LinesTaken.{Stays, Took, WentOn, asked_from, asked_in}
use Rattle.regatta_service.specs.declared.sessions.End.{End}
use Rattle.regatta_service.proofs.Points.{are_back, are_both, are_more, stays_same}
use Rattle.regatta_talk.specs.declared.asked.AskedLine.{AskedLine}
use Rattle.regatta_service.specs.LinesTaken.{asks}
use Rattle.regatta_talk.specs.Replies.{asked_line}

-- ---- what is asked for, byte by byte

asked_byte : (line : List ℕ) (byte : ℕ) (text : List ℕ) → is_line_end byte ≡ false
    → asked_from line (byte ∷ text) ≡ asked_from (heard_with line byte) text
asked_byte line byte text is = ap (map asks) (heard_byte false line byte text is)

asked_end : (line : List ℕ) (byte : ℕ) (text : List ℕ) → is_line_end byte ≡ true
    → asked_from line (byte ∷ text) ≡ asks line ∷ asked_from [] text
asked_end line byte text is = ap (map asks) (heard_end false line byte text is)

no_last : (line : List ℕ) → lines_of_pieces false (line ∷ []) ≡ []
no_last [] = refl
no_last (byte ∷ line) = refl

-- a line that hasn't ended isn't asked
asked_none : (line : List ℕ) → asked_from line [] ≡ []
unfolding heard_lines
asked_none line = ap (map asks) (no_last line)

-- what is kept of lines asks for the same as the lines
heard_ask : (lines : List (List ℕ)) → map asks (map heard lines) ≡ map asks lines
heard_ask [] = refl
heard_ask (line ∷ lines) =
    ap (λ (asked : AskedLine). asked ∷ map asks (map heard lines)) (ap asked_line (heard_reads line))
    ∙ ap (λ (more : List AskedLine). asks line ∷ more) (heard_ask lines)

-- from the first byte on it is what the lines of the text ask for
pub asked_of_text : (text : List ℕ) → asked_from [] text ≡ asked_in text
asked_of_text text = ap (map asks) (heard_of_text false text) ∙ heard_ask (ended_lines text)

-- ---- one byte more

-- what comes after it
after_byte : (rules : RulesParts) (line bytes : List ℕ) (before : Point) (later : List ℕ)
    (after : Point) (byte : ℕ) (rest : List ℕ)
    → (w : WentOn rules line bytes before later after)
    → asked_from line ((bytes ++ byte ∷ []) ++ rest)
    ≡ w.lines ++ asked_from later (byte ∷ rest)
after_byte rules line bytes before later after byte rest w =
    ap (asked_from line) (append_assoc bytes (byte ∷ []) rest) ∙ w.cut (byte ∷ rest)

byte_more : (rules : RulesParts) (line bytes : List ℕ) (before : Point) (later : List ℕ)
    (after : Point) (byte : ℕ) → is_line_end byte ≡ false
    → WentOn rules line bytes before later after
    → WentOn rules line (bytes ++ byte ∷ []) before (heard_with later byte) after
byte_more rules line bytes before later after byte is w = record {
  lines = w.lines;
  going = w.going;
  cut = λ rest. after_byte rules line bytes before later after byte rest w
      ∙ ap (λ (more : List AskedLine). w.lines ++ more) (asked_byte later byte rest is);
  answered = w.answered;
}

line_more : (rules : RulesParts) (line bytes : List ℕ) (before : Point) (later : List ℕ)
    (between : Point) (byte : ℕ) (after : Point) → is_line_end byte ≡ true
    → GoesOn (asks later) → IsReplied rules (asks later) between after
    → WentOn rules line bytes before later between
    → WentOn rules line (bytes ++ byte ∷ []) before [] after
line_more rules line bytes before later between byte after is goes replied w = record {
  lines = w.lines ++ asks later ∷ [];
  going = All-push GoesOn w.lines (asks later) w.going goes;
  cut = λ rest. after_byte rules line bytes before later between byte rest w
      ∙ ap (λ (more : List AskedLine). w.lines ++ more) (asked_end later byte rest is)
      ∙ sym (append_assoc w.lines (asks later ∷ []) (asked_from [] rest));
  answered = are_more rules w.lines (asks later) before between after w.answered replied;
}

-- ---- the bytes of a piece, one after another

-- none was taken yet
pub none_taken : (rules : RulesParts) (line : List ℕ) (before : Point)
    → WentOn rules line [] before line before
none_taken rules line before = record {
  lines = [];
  going = All-nil GoesOn;
  cut = λ rest. refl;
  answered = stays_same before;
}

front_more : (piece : List ℕ) (i byte : ℕ) → i < length piece → get_or piece i 0 ≡ byte
    → take (i + 1) piece ≡ take i piece ++ byte ∷ []
front_more piece i byte within at = take_more piece i 0 within
    ∙ ap (λ (b : ℕ). take i piece ++ b ∷ []) at

pub byte_taken : (rules : RulesParts) (line piece : List ℕ) (before : Point) (later : List ℕ)
    (after : Point) (i byte : ℕ) (now : List ℕ) (left : Point) → i < length piece
    → get_or piece i 0 ≡ byte → is_line_end byte ≡ false → now ≡ heard_with later byte
    → left ≡ after → WentOn rules line (take i piece) before later after
    → WentOn rules line (take (i + 1) piece) before now left
byte_taken rules line piece before later after i byte now left within at is heard same w =
    rw (heard) (rw (same) (rw (front_more piece i byte within at)
    (byte_more rules line (take i piece) before later after byte is w)))

pub line_taken : (rules : RulesParts) (line piece : List ℕ) (before : Point) (later : List ℕ)
    (between : Point) (i byte : ℕ) (now : List ℕ) (left : Point) → i < length piece
    → get_or piece i 0 ≡ byte → is_line_end byte ≡ true → GoesOn (asks later) → now ≡ []
    → IsReplied rules (asks later) between left
    → WentOn rules line (take i piece) before later between
    → WentOn rules line (take (i + 1) piece) before now left
line_taken rules line piece before later between i byte now left within at is goes none replied w =
    rw (none) (rw (front_more piece i byte within at)
    (line_more rules line (take i piece) before later between byte left is goes replied w))

-- a session ends at a line neither by a read nor for want of memory
pub at_a_line : {A : Type 0} (rules : RulesParts) (result : Result A End) (asked : AskedLine)
    (before after : Point) → DidLine rules result asked before after
    → (result ≢ Err End.Closed) × (result ≢ Err End.ReadFault) × (result ≢ Err End.NoMemory)
at_a_line {A} rules result asked before after did = (never, never, never)
  where
    never : {end : Result A End} → result ≡ end → DidLine rules end asked before after
    never is = subst (λ (r : Result A End). DidLine rules r asked before after) is did

-- a line has ended at which the session ended, and others may follow it
pub last_taken : (A : Type 0) (rules : RulesParts) (line piece : List ℕ) (before : Point)
    (later : List ℕ) (between : Point) (i byte : ℕ) (after : Point) (end : End) → i < length piece
    → get_or piece i 0 ≡ byte → is_line_end byte ≡ true
    → DidLine {A = A} rules (Err end) (asks later) between after
    → WentOn rules line (take i piece) before later between
    → Took rules end (asked_from line piece) before after
last_taken A rules line piece before later between i byte after end within at is did w = by end did
  where
    rest : List ℕ
    rest = drop (i + 1) piece

    at_it : (Did : AskedLine → Point → Point → Type 0) → Did (asks later) between after
        → EndedAt Did rules (asked_from line piece) before after
    at_it Did did = record {
      lines = w.lines;
      going = w.going;
      last = asks later;
      unanswered = asked_from [] rest;
      cut = ap (asked_from line) (sym (take-append-drop (i + 1) piece)
          ∙ ap (λ (front : List ℕ). front ++ rest) (front_more piece i byte within at))
          ∙ after_byte rules line (take i piece) before later between byte rest w
          ∙ ap (λ (more : List AskedLine). w.lines ++ more) (asked_end later byte rest is);
      between = between;
      answered = w.answered;
      did = did;
    }

    by : (end : End) → DidLine {A = A} rules (Err end) (asks later) between after
        → Took rules end (asked_from line piece) before after
    by End.Quit did = at_it (IsQuit rules) did
    by End.WriteFault did = at_it (IsCutOff rules) did
    by End.Stopped did = at_it IsPassedOver did
    by End.NotKept did = at_it (IsUnsaid rules) did
    by End.NoMemory did = absurd did
    by End.Closed did = absurd did
    by End.ReadFault did = absurd did

-- ---- one piece after another

module _ (rules : RulesParts) (line bytes : List ℕ) (before : Point) (later : List ℕ)
    (between now : Point) (stays : Stays between now) (piece : List ℕ) (after : Point)
    (w : WentOn rules line bytes before later between) where
  front : AreReplied rules w.lines before now
  front = are_back rules w.lines before between now w.answered stays

  -- the session goes on
  pub went_both : (last : List ℕ) → WentOn rules later piece now last after
      → WentOn rules line (bytes ++ piece) before last after
  went_both last v = record {
    lines = w.lines ++ v.lines;
    going = All-append GoesOn w.lines v.lines w.going v.going;
    cut = λ rest. ap (asked_from line) (append_assoc bytes piece rest) ∙ w.cut (piece ++ rest)
        ∙ ap (λ (more : List AskedLine). w.lines ++ more) (v.cut rest)
        ∙ sym (append_assoc w.lines v.lines (asked_from last rest));
    answered = are_both rules w.lines v.lines before now after front v.answered;
  }

  -- it ends
  all_both : AllReplied rules (asked_from later piece) now after
      → AllReplied rules (asked_from line (bytes ++ piece)) before after
  all_both v = subst (λ (asked : List AskedLine). AllReplied rules asked before after)
      (sym (w.cut piece)) (record {
        going = All-append GoesOn w.lines (asked_from later piece) w.going v.going;
        answered = are_both rules w.lines (asked_from later piece) before now after front
            v.answered;
      })

  ended_both : (Did : AskedLine → Point → Point → Type 0)
      → EndedAt Did rules (asked_from later piece) now after
      → EndedAt Did rules (asked_from line (bytes ++ piece)) before after
  ended_both Did v = record {
    lines = w.lines ++ v.lines;
    going = All-append GoesOn w.lines v.lines w.going v.going;
    last = v.last;
    unanswered = v.unanswered;
    cut = w.cut piece ∙ ap (λ (more : List AskedLine). w.lines ++ more) v.cut
        ∙ sym (append_assoc w.lines v.lines (v.last ∷ v.unanswered));
    between = v.between;
    answered = are_both rules w.lines v.lines before now v.between front v.answered;
    did = v.did;
  }

  pub took_both : (end : End) → (end ≡ End.NoMemory → ⊥)
      → Took rules end (asked_from later piece) now after
      → Took rules end (asked_from line (bytes ++ piece)) before after
  took_both End.Closed room v = all_both v
  took_both End.ReadFault room v = all_both v
  took_both End.Quit room v = ended_both (IsQuit rules) v
  took_both End.WriteFault room v = ended_both (IsCutOff rules) v
  took_both End.Stopped room v = ended_both IsPassedOver v
  took_both End.NotKept room v = ended_both (IsUnsaid rules) v
  took_both End.NoMemory room v = absurd (room refl)

-- no more bytes come: all lines that ended were answered
pub all_taken : (rules : RulesParts) (line bytes : List ℕ) (before : Point) (later : List ℕ)
    (between now : Point) → Stays between now → WentOn rules line bytes before later between
    → AllReplied rules (asked_from line bytes) before now
all_taken rules line bytes before later between now stays w =
    let all : asked_from line bytes ≡ w.lines =
    ap (asked_from line) (sym (append-nil bytes)) ∙ w.cut []
    ∙ ap (λ (more : List AskedLine). w.lines ++ more) (asked_none later)
    ∙ append-nil w.lines in
    subst (λ (asked : List AskedLine). AllReplied rules asked before now) (sym all) (record {
      going = w.going;
      answered = are_back rules w.lines before between now w.answered stays;
    })
