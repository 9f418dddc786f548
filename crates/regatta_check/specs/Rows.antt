-- The rows of a check.
use Rattle.std.specs.Prelude.{ℕ, List, [], ◌∷◌, ◌++◌, codes, decimal, Option, Some, None}
use Rattle.regatta_terms.specs.Replies.{number_of_fault, number_of_refusal}
use Rattle.regatta_json.specs.Rows.{flag_text, joined}
use Rattle.regatta_words.specs.Sentences.{fault_name, refusal_name}
use Rattle.regatta_check.specs.declared.parts.Fault.{Fault}
use Rattle.regatta_check.specs.declared.parts.Kind.{Kind}
use Rattle.regatta_check.specs.declared.parts.Kind.TheVariants.{BadVersion, BadLine, TooMany}
use Rattle.regatta_check.specs.declared.parts.Kind.TheVariants.{Refused}
use Rattle.regatta_check.specs.declared.parts.Place.{Place}
use Rattle.regatta_check.specs.declared.parts.RowFault.{RowFault}
use Rattle.regatta_check.specs.declared.parts.RowKind.{RowKind}
use Rattle.regatta_check.specs.declared.parts.RowKind.TheVariants as row
use Rattle.regatta_check.specs.declared.parts.Torn.{Torn}

-- where a line is
unfoldable pub place_text : Place → List ℕ
place_text place = joined (codes "\"line\":" ∷ decimal place.line
    ∷ codes ",\"at\":" ∷ decimal place.at ∷ codes ",\"bytes\":" ∷ decimal place.bytes ∷ [])

-- a kind, with the number and the name of why
unfoldable pub named_text : List ℕ → ℕ → List ℕ → List ℕ
named_text kind number name = joined (codes "\"fault\":\"" ∷ kind
    ∷ codes "\",\"number\":" ∷ decimal number ∷ codes ",\"name\":\"" ∷ name ∷ codes "\"" ∷ [])

-- what is wrong with a line
unfoldable pub kind_text : Kind → List ℕ
kind_text BadVersion = codes "\"fault\":\"BadVersion\""
kind_text (BadLine why) = named_text (codes "BadLine") (number_of_fault why) (fault_name why)
kind_text TooMany = codes "\"fault\":\"TooMany\""
kind_text (Refused why) = named_text (codes "Refused") (number_of_refusal why) (refusal_name why)

-- a line that something is wrong with
unfoldable pub fault_row : Fault → List ℕ
fault_row fault =
    codes "{" ++ place_text fault.place ++ codes "," ++ kind_text fault.kind ++ codes "}"

-- the end of a kept file
unfoldable pub torn_text : Torn → List ℕ
torn_text torn = joined (codes "{\"lines\":" ∷ decimal torn.lines ∷ codes ",\"at\":" ∷ decimal torn.at
    ∷ codes ",\"bytes\":" ∷ decimal torn.bytes
    ∷ codes ",\"damaged\":" ∷ flag_text torn.is_damage ∷ codes "}" ∷ [])

-- the same, or null
unfoldable pub torn_value : Option Torn → List ℕ
torn_value None = codes "null"
torn_value (Some torn) = torn_text torn

-- what is wrong with a row of an entry list
unfoldable pub row_kind_text : RowKind → List ℕ
row_kind_text row.NoColumn = codes "\"fault\":\"NoColumn\""
row_kind_text row.BadRow = codes "\"fault\":\"BadRow\""
row_kind_text row.BadSail = codes "\"fault\":\"BadSail\""
row_kind_text row.Twice = codes "\"fault\":\"Twice\""
row_kind_text row.TooMany = codes "\"fault\":\"TooMany\""
row_kind_text (row.Refused why) =
    named_text (codes "Refused") (number_of_refusal why) (refusal_name why)

-- a row of an entry list that something is wrong with
unfoldable pub row_fault_row : RowFault → List ℕ
row_fault_row fault = joined (codes "{\"row\":" ∷ decimal fault.row ∷ codes "," ∷ [])
    ++ row_kind_text fault.kind ++ codes "}"
