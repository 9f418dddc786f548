-- The buffered lines of a text that comes byte by byte.
use Rattle.std.specs.Prelude.{ℕ, Bool, List, [], ◌∷◌, ◌++◌, length, nat_lt, take}
use Rattle.std.specs.Prelude.{if◌then◌else◌}
use Rattle.regatta_terms.specs.TextLines.{is_line_end, lines_of_pieces}
use Rattle.regatta_talk.specs.declared.cutter.TheConstants.{MAX_HEARD}

-- the buffered part of a line: enough to see that the line is too long
abbrev pub heard : List ℕ → List ℕ
heard line = take MAX_HEARD line

-- the buffered bytes of a line after one more byte
abbrev pub heard_with : List ℕ → ℕ → List ℕ
heard_with line byte = if nat_lt (length line) MAX_HEARD then line ++ byte ∷ [] else line

-- the buffered lines of a text that continues the line so far
unfoldable pub heard_lines : Bool → List ℕ → List ℕ → List (List ℕ)
heard_lines counts line [] = lines_of_pieces counts (line ∷ [])
heard_lines counts line (byte ∷ text) =
    if is_line_end byte then line ∷ heard_lines counts [] text
    else heard_lines counts (heard_with line byte) text
