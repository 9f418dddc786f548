-- The answers to lines, one after another.
use Rattle.std.proofs.Common.{◌≡◌, ℕ, ◌<◌, length, arith, Bool, true, false, cond, List, [], ◌∷◌}
use Rattle.std.proofs.Common.{◌++◌, map, Result, refl, sym, ap, ◌∙◌, append_assoc}
use Rattle.std.specs.List.{fold, list_any}
use Rattle.regatta_terms.specs.Lines.{line_of}
use Rattle.regatta_terms.specs.Rules.{RulesParts}
use Rattle.regatta_terms.specs.declared.line.Line.{Line}
use Rattle.regatta_terms.specs.declared.line.LineFault.{LineFault}
use Rattle.regatta_terms.specs.TextLines.{is_line_end, lines_by}
use Rattle.regatta_office.specs.Coming.{Point, Said, ahead, coming, ended, said}
use Rattle.regatta_talk.specs.HeardLines.{heard, heard_with, heard_lines}
use Rattle.regatta_office.specs.Coming.{unless}
use Rattle.regatta_office.specs.Transcript.{Talk, has_quit, is_quit, replies, talk_at_end}
use Rattle.regatta_office.specs.Transcript.{up_to_quit}
use Rattle.regatta_office.specs.Turns.{talk_after, text_after}
use Rattle.regatta_talk.proofs.HeardLines.{heard_end, heard_of_text, heard_reads}
use Rattle.regatta_office.proofs.HeardFacts.{bytes_lines}

-- the answer to a line, from what it reads as, followed by the answers to the next lines
abbrev next_said : RulesParts → Talk → Result Line LineFault → List (List ℕ) → Said
next_said rules talk asked rest =
    ahead (text_after rules talk asked) (cond (is_quit asked)
    (record { text = []; journal = (talk_after rules talk asked).journal; quit = true })
    (said rules (talk_after rules talk asked) rest))

pub said-none : (rules : RulesParts) (talk : Talk)
    → said rules talk [] ≡ record { text = []; journal = talk.journal; quit = false }
unfolding up_to_quit replies talk_at_end has_quit
said-none rules talk = refl

said-by : (rules : RulesParts) (talk : Talk) (line : List ℕ) (rest : List (List ℕ)) (b : Bool)
    → is_quit (line_of line) ≡ b
    → said rules talk (line ∷ rest) ≡ next_said rules talk (line_of line) rest
unfolding up_to_quit replies talk_at_end has_quit
said-by rules talk line rest true is = rw is refl
said-by rules talk line rest false is = rw is refl

pub said-cons : (rules : RulesParts) (talk : Talk) (line : List ℕ) (rest : List (List ℕ))
    → said rules talk (line ∷ rest) ≡ next_said rules talk (line_of line) rest
said-cons rules talk line rest = said-by rules talk line rest (is_quit (line_of line)) refl

-- buffered lines get the answers of the whole lines
pub said-heard : (rules : RulesParts) (talk : Talk) (lines : List (List ℕ))
    → said rules talk (map heard lines) ≡ said rules talk lines
said-heard rules talk [] = refl
said-heard rules talk (line ∷ rest) =
    said-cons rules talk (heard line) (map heard rest)
    ∙ ap (λ (asked : Result Line LineFault). next_said rules talk asked (map heard rest))
    (heard_reads line)
    ∙ ap (λ (s : Said). ahead (text_after rules talk (line_of line))
    (cond (is_quit (line_of line)) (record {
      text = [];
      journal = (talk_after rules talk (line_of line)).journal;
      quit = true;
    }) s))
    (said-heard rules (talk_after rules talk (line_of line)) rest)
    ∙ sym (said-cons rules talk line rest)

-- what is to come at the beginning of a text is the answers to its lines
pub coming-whole : (counts : Bool) (rules : RulesParts) (talk : Talk) (text : List ℕ)
    → coming (record { rules = rules; talk = talk; line = [] }) counts text
    ≡ said rules talk (lines_by counts text)
coming-whole counts rules talk text = ap (said rules talk) (heard_of_text counts text)
    ∙ said-heard rules talk (lines_by counts text)

-- the end of a line
pub line_ends : (counts : Bool) (point : Point) (byte : ℕ) (rest : List ℕ) → is_line_end byte ≡ true
    → coming point counts (byte ∷ rest)
    ≡ ahead (text_after point.rules point.talk (line_of point.line))
    (unless (is_quit (line_of point.line)) counts
    (record {
      rules = point.rules;
      talk = talk_after point.rules point.talk
          (line_of point.line);
      line = [];
    }) rest)
line_ends counts point byte rest is =
    ap (said point.rules point.talk) (heard_end counts point.line byte rest is)
    ∙ said-cons point.rules point.talk point.line (heard_lines counts [] rest)

-- other bytes of a line
pub line_goes : (counts : Bool) (point : Point) (bytes rest : List ℕ)
    → list_any is_line_end bytes ≡ false
    → coming point counts (bytes ++ rest) ≡ coming (record point { line = fold heard_with point.line bytes })
    counts rest
line_goes counts point bytes rest none = ap (said point.rules point.talk)
    (bytes_lines counts point.line bytes rest none)

-- the end of a text, with bytes of a current line, and without
last_heard : (line : List ℕ) → 0 < length line → heard_lines true line [] ≡ line ∷ []
unfolding heard_lines
last_heard [] some = absurd (omega (arith, some))
last_heard (byte ∷ line) some = refl

last_said : (quit : Bool) (rules : RulesParts) (talk : Talk) (text : List ℕ)
    → ahead text (cond quit (record { text = []; journal = talk.journal; quit = true })
    (said rules talk []))
    ≡ ahead text (record { text = []; journal = talk.journal; quit = quit })
last_said true rules talk text = refl
last_said false rules talk text = ap (ahead text) (said-none rules talk)

pub line_last : (point : Point) → 0 < length point.line
    → coming point true []
    ≡ ahead (text_after point.rules point.talk (line_of point.line))
    (ended (is_quit (line_of point.line)) (record {
      rules = point.rules;
      talk = talk_after
          point.rules point.talk (line_of point.line);
      line = [];
    }))
line_last point some =
    ap (said point.rules point.talk) (last_heard point.line some)
    ∙ said-cons point.rules point.talk point.line []
    ∙ last_said (is_quit (line_of point.line)) point.rules
    (talk_after point.rules point.talk (line_of point.line))
    (text_after point.rules point.talk (line_of point.line))

none_heard : (line : List ℕ) → length line ≡ 0 → heard_lines true line [] ≡ []
unfolding heard_lines
none_heard [] none = refl
none_heard (byte ∷ line) none = absurd (omega (arith, none))

pub line_none : (point : Point) → length point.line ≡ 0 → coming point true [] ≡ ended false point
line_none point none = ap (said point.rules point.talk) (none_heard point.line none)
    ∙ said-none point.rules point.talk

-- ---- a text before the answers

pub ahead-ahead : (a b : List ℕ) (s : Said) → ahead (a ++ b) s ≡ ahead a (ahead b s)
ahead-ahead a b s = ap (λ (t : List ℕ). record { text = t; journal = s.journal; quit = s.quit })
    (append_assoc a b s.text)
