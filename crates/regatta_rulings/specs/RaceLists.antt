-- How a list of races is stored.
use Rattle.std.specs.Prelude.{◌≡◌, ℕ, ◌-◌, List, ◌++◌, length, replicate, take}

-- the races, padded with zeros to 40
abbrev pub in_slots : List ℕ → List ℕ
in_slots races = races ++ replicate (40 - length races) 0

-- the first count of the slots are the races, and zeros follow
pub record IsStored (slots : List ℕ) (count : ℕ) : Type 0 where
  pub holds : length (take count slots) ≡ count
  pub padding : in_slots (take count slots) ≡ slots
