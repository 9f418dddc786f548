-- The book of a session that begins.
use Rattle.std.specs.Prelude.{◌≡◌, List, [], Option, None, Some}
use Rattle.regatta_scores.specs.Journal.{Journal}

-- it is empty, if there is one
abbrev pub IsFresh : Option (List Journal) → Type 0
IsFresh None = Unit {0}
IsFresh (Some book) = book ≡ []
