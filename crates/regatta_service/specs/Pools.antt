-- What is in a pool of passes.
use Rattle.std.specs.Prelude.{◌≡◌, ◌≤◌, ℕ, List, Option, Some, None, IfSome, All}
use Rattle.std.specs.Prelude.{slice_get, slice_set}
use Rattle.regatta_desk.specs.Passes.{PassValue}

-- the slot has a pass of this seat, and no slot has a pass of a lower seat
pub record IsLowest (slots : List (Option PassValue)) (slot seat : ℕ) : Type 0 where
  pub pass : PassValue
  pub here : slice_get slots slot ≡ Some (Some pass)
  pub seated : pass.seat ≡ seat
  pub lowest : All (λ other. IfSome other (λ p. seat ≤ p.seat)) slots

-- the slot found, with its seat, is the lowest; if none was found, each slot is empty
abbrev pub Finds : List (Option PassValue) → Option (ℕ × ℕ) → Type 0
Finds slots None = All (λ slot. slot ≡ None) slots
Finds slots (Some found) = IsLowest slots found.0 found.1

-- the passes that are free, each in its slot, and the slot whose client is refused a thread, if any
pub record PoolParts : Type 0 where
  pub slots : List (Option PassValue)
  pub refused : Option ℕ

-- the free pass with the lowest seat was lent from this slot, and its client isn't refused
pub record Lends (old new : PoolParts) (slot : ℕ) (pass : PassValue) : Type 0 where
  pub here : slice_get old.slots slot ≡ Some (Some pass)
  pub lowest : IsLowest old.slots slot pass.seat
  pub taken : new.slots ≡ slice_set old.slots slot None
  pub unrefused : new.refused ≡ None

-- the pass is back in its slot
abbrev pub with_pass : PoolParts → ℕ → PassValue → PoolParts
with_pass pool slot pass = record pool { slots = slice_set pool.slots slot (Some pass) }
