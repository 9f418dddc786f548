-- How worked examples are written: as tables of pairs.
use Rattle.std.specs.Prelude.{◌≡◌, List, map}

-- a function gives the second of each pair for the first
abbrev pub Gives : {A B : Type 0} → (A → B) → List (A × B) → Type 0
Gives f pairs = map (λ pair. f pair.0) pairs ≡ map (λ pair. pair.1) pairs
