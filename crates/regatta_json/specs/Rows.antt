-- Lists of rows, and truth values.
use Rattle.std.specs.Prelude.{ℕ, Bool, List, [], ◌∷◌, ◌++◌, flat_map, codes, if◌then◌else◌}

-- the word for a truth value
abbrev pub flag_text : Bool → List ℕ
flag_text holds = if holds then codes "true" else codes "false"

-- a text that isn't the first of its list, after what separates it from the one before
abbrev pub next_text : {X : Type 0} → List ℕ → (X → List ℕ) → X → List ℕ
next_text separator text x = separator ++ text x

-- the texts of a list, separated
abbrev pub listed : {X : Type 0} → List ℕ → (X → List ℕ) → List X → List ℕ
listed separator text [] = []
listed separator text (x ∷ xs) = text x ++ flat_map (next_text separator text) xs

-- the rows of a list, with a comma and a line feed between them
abbrev pub rows : {X : Type 0} → (X → List ℕ) → List X → List ℕ
rows text xs = listed (codes ",\n") text xs

-- the values of a list in one row, with commas between them
abbrev pub values : {X : Type 0} → (X → List ℕ) → List X → List ℕ
values text xs = listed (codes ",") text xs

-- the pieces, one after another
abbrev pub joined : List (List ℕ) → List ℕ
joined [] = []
joined (piece ∷ pieces) = piece ++ joined pieces
