-- The laws of buffered lines.
use Rattle.std.specs.Prelude.{◌≡◌, ℕ, Bool, List, [], map}
use Rattle.regatta_terms.specs.Lines.{line_of}
use Rattle.regatta_terms.specs.TextLines.{lines_by}
use Rattle.regatta_talk.specs.HeardLines.{heard, heard_lines}

-- the lines cut byte by byte are the buffered parts of the lines of the whole text, whether a last
-- line without its end counts or not
abbrev pub LinesOfText : Type 0
LinesOfText =
    (counts : Bool) (text : List ℕ) → heard_lines counts [] text ≡ map heard (lines_by counts text)

-- the buffered part of a line reads as the line, however long it is
abbrev pub HeardReadsAsLine : Type 0
HeardReadsAsLine = (line : List ℕ) → line_of (heard line) ≡ line_of line
