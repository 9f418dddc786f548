-- The text of results as CSV.
use Rattle.std.specs.Prelude.{ℕ, true, List, ◌∷◌, ◌++◌, map, flat_map, codes, decimal}
use Rattle.csv.specs.Writing.{default_writer, row_text}
use Rattle.csv.specs.declared.writer.WriterBuilder.{WriterBuilder}
use Rattle.regatta_scores.specs.declared.table.Standing.{Standing}
use Rattle.regatta_tables.specs.TableTexts.{row_words}

-- the header: a column for each word of a boat's row in the table
abbrev pub header_fields : List ℕ → List (List ℕ)
header_fields races =
    codes "rank" ∷ codes "sail" ∷ codes "net" ∷ map (λ race. codes "R" ++ decimal race) races

-- the settings of `csv`: the default ones (commas, a line feed after each record, quotes if
-- needed), except that records may have any length
abbrev pub any_lengths : WriterBuilder
any_lengths = record default_writer { flexible = true }

-- the header, and a record with the words of each boat's row, as `csv` writes them
abbrev pub csv_text : Standing → List ℕ
csv_text standing =
    flat_map (row_text any_lengths) (header_fields standing.races ∷ map row_words standing.rows)
