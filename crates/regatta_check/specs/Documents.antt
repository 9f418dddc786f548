-- The text of a check, from its parts.
use Rattle.std.specs.Prelude.{ℕ, List, ◌++◌, codes}
use Rattle.regatta_json.specs.Rows.{rows}
use Rattle.regatta_check.specs.declared.parts.Check.{Check}
use Rattle.regatta_check.specs.Rows.{fault_row, row_fault_row, torn_value}

-- the lines of a text, and its end
unfoldable pub lines_text : Check → List ℕ
lines_text check = codes "{\"faults\":[\n" ++ rows fault_row check.faults
    ++ codes "\n],\n\"torn\":" ++ torn_value check.torn

-- the document
unfoldable pub document_text : Check → List ℕ
document_text check = lines_text check
    ++ codes ",\n\"rows\":[\n" ++ rows row_fault_row check.rows ++ codes "\n]}\n"
