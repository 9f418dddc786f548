-- The lines of a text.
use Rattle.std.specs.Prelude.{ℕ, Bool, true, false, ◌==◌, List, [], ◌∷◌}
use Rattle.std.specs.List.{slice_split}

-- a line feed
abbrev pub is_line_end : ℕ → Bool
is_line_end byte = byte == 10

-- the lines of pieces: each but the last is one; the last, which no LF ends, is one if such pieces
-- count and it has any bytes
abbrev pub lines_of_pieces : Bool → List (List ℕ) → List (List ℕ)
lines_of_pieces counts [] = []
lines_of_pieces counts (piece ∷ next ∷ pieces) = piece ∷ lines_of_pieces counts (next ∷ pieces)
lines_of_pieces true ((byte ∷ bytes) ∷ []) = (byte ∷ bytes) ∷ []
lines_of_pieces counts (piece ∷ []) = []

-- the lines of a text, of which the last piece may count
abbrev pub lines_by : Bool → List ℕ → List (List ℕ)
lines_by counts text = lines_of_pieces counts (slice_split is_line_end text)

-- the lines of a whole text, which is cut at each LF
abbrev pub lines : List ℕ → List (List ℕ)
lines text = lines_of_pieces true (slice_split (λ b. b == 10) text)

-- the lines that have ended so far, in a text that may continue
abbrev pub ended_lines : List ℕ → List (List ℕ)
ended_lines text = lines_of_pieces false (slice_split (λ b. b == 10) text)
