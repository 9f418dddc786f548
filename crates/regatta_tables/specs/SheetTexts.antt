-- The text of a sheet: a journal, and its standing.
use Rattle.std.specs.Prelude.{ℕ, List, [], ◌∷◌, ◌++◌, length, codes, decimal}
use Rattle.regatta_terms.specs.Entries.{EntryParts}
use Rattle.regatta_scores.specs.declared.table.Standing.{Standing}
use Rattle.regatta_tables.specs.Lines.{line}
use Rattle.regatta_tables.specs.JournalTexts.{entries_text}
use Rattle.regatta_tables.specs.TableTexts.{table_text}

-- how many entries there are, their text without a version line, the table, and a last line
abbrev pub sheet_by : ℕ → List ℕ → Standing → List ℕ
sheet_by count entries standing =
    line (codes "JOURNAL" ∷ decimal count ∷ []) ++ entries ++ table_text standing
    ++ line (codes "END" ∷ [])

-- the sheet of a journal and its standing
abbrev pub sheet_text : List EntryParts → Standing → List ℕ
sheet_text entries standing = sheet_by (length entries) (entries_text entries) standing
