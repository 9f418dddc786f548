-- A run that does what is asked for, or no more.
use Rattle.std.specs.Prelude.{ℕ, List, Option}
use Rattle.times.specs.Asked.{AtMostRunOf, IsRunOf}
use Rattle.times.specs.declared.options.Asked.{Asked}
use Rattle.times.specs.declared.options.Asked.TheVariants.{Lines, Sums}
use Rattle.times.specs.declared.settings.Form.TheVariants.{TimeLines, TimeSums}

-- the lines were written, or the sums, as is asked for
abbrev pub IsRunOfAsked : Asked → Option (List ℕ) → Option (List ℕ) → Option (List ℕ) → Type 0
IsRunOfAsked (Lines race) given old new = IsRunOf TimeLines race given old new
IsRunOfAsked (Sums race) given old new = IsRunOf TimeSums race given old new

-- they were written, or a first part of them
abbrev pub AtMostRunOfAsked : Asked → Option (List ℕ) → Option (List ℕ) → Option (List ℕ) → Type 0
AtMostRunOfAsked (Lines race) given old new = AtMostRunOf TimeLines race given old new
AtMostRunOfAsked (Sums race) given old new = AtMostRunOf TimeSums race given old new
