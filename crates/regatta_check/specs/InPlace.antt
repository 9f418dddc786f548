-- What the place of a fault says of the text.
use Rattle.std.specs.Prelude.{◌≡◌, ◌≤◌, ℕ, ◌-◌, List, [], ◌∷◌, take, drop, slice_get, Some}
use Rattle.regatta_terms.specs.TextLines.{lines}
use Rattle.regatta_check.specs.declared.parts.Fault.{Fault}
use Rattle.regatta_check.specs.declared.parts.Place.{Place}

-- the bytes of a text at a place
abbrev pub bytes_at : List ℕ → Place → List ℕ
bytes_at text place = take place.bytes (drop place.at text)

-- these bytes are the line with its number
pub record IsLineAt (text : List ℕ) (place : Place) : Type 0 where
  pub from_one : 1 ≤ place.line
  pub line : slice_get (lines text) (place.line - 1) ≡ Some (bytes_at text place)

-- so is each fault's place
abbrev pub AreInPlace : List ℕ → List Fault → Type 0
AreInPlace text [] = Unit {0}
AreInPlace text (fault ∷ faults) = IsLineAt text fault.place × AreInPlace text faults
