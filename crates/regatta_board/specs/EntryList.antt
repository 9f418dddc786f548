-- The entry list as a map from boats to their numbers.
use Rattle.std.specs.Prelude.{◌≡◌, ℕ, List, Some, slice_get}
use Rattle.regatta_terms.specs.declared.sail.Sail.{Sail}

-- a boat's number is her position in the list
abbrev pub IsNumbered : List (Sail × ℕ) → Type 0
IsNumbered entries =
    (position : ℕ) (boat : Sail) (number : ℕ)
    → slice_get entries position ≡ Some (boat, number) → number ≡ position
