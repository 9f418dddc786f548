-- What is known of a stream's bytes after several calls.
use Rattle.std.specs.Prelude.{◌≡◌, ℕ, ◌<◌, ◌≤◌, List, Option, IfSome, length, take}
use Rattle.std.specs.Io.KnownBytes.{Appends, Consumes}

-- a stream gave at most `limit` bytes
abbrev pub GaveAtMost : ℕ → Option (List ℕ) → Option (List ℕ) → Type 0
GaveAtMost limit old new = (bytes : List ℕ) × Consumes old new bytes × (length bytes ≤ limit)

-- a stream took the first n of these bytes, for some n, but not all of them
abbrev pub AppendsPrefix : Option (List ℕ) → Option (List ℕ) → List ℕ → Type 0
AppendsPrefix old new bytes = (n : ℕ) × (n < length bytes) × Appends old new (take n bytes)

-- a text is all that a stream gave, if that is known, and has at most `limit` bytes
pub record IsAllOf (given : Option (List ℕ)) (limit : ℕ) (text : List ℕ) : Type 0 where
  pub all : IfSome given (λ bytes. text ≡ bytes)
  pub short : length text ≤ limit
