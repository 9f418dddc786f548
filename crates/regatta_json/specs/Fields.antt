-- Fields of documents: a name, and the value that follows it.
use Rattle.std.specs.Prelude.{ℕ, List, [], ◌∷◌, ◌++◌, codes, decimal, Option, Some, None}
use Rattle.regatta_scores.specs.declared.table.Abbrev.{Abbrev}
use Rattle.regatta_scores.specs.Abbreviations.{abbrev_text}
use Rattle.regatta_json.specs.Rows.{joined}

-- a name, and the value that follows it
abbrev pub field : List ℕ → List ℕ → List ℕ
field name value = name ++ value

-- a word as a string
unfoldable pub quoted : List ℕ → List ℕ
quoted word = joined (codes "\"" ∷ word ∷ codes "\"" ∷ [])

-- an abbreviation, or null
unfoldable pub mark_value : Option Abbrev → List ℕ
mark_value None = codes "null"
mark_value (Some mark) = quoted (abbrev_text mark)

-- a number, or null
unfoldable pub number_value : Option ℕ → List ℕ
number_value None = codes "null"
number_value (Some number) = decimal number
