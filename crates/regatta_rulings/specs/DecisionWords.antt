-- Lines of decisions as words.
use Rattle.std.specs.Prelude.{ℕ, Bool, ◌==◌, ◌||◌, not, List, [], ◌∷◌, length}
use Rattle.std.specs.List.{filter, slice_split}

-- a space, a tab or a carriage return
abbrev pub is_blank : ℕ → Bool
is_blank b = b == 32 || b == 9 || b == 13

-- the first of some parts
abbrev pub first_part : List (List ℕ) → List ℕ
first_part [] = []
first_part (part ∷ parts) = part

-- a line without its note: what is before the first #
abbrev pub without_note : List ℕ → List ℕ
without_note line = first_part (slice_split (λ b. b == 35) line)

-- the words of a text: its parts between blanks, without the empty ones
abbrev pub words_of : List ℕ → List (List ℕ)
words_of text = filter (λ part. not (length part == 0)) (slice_split is_blank text)
