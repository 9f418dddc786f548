-- The text of a table: the standing of a series.
use Rattle.std.specs.Prelude.{ℕ, Bool, List, [], ◌∷◌, ◌++◌, length, map, flat_map}
use Rattle.std.specs.Prelude.{Option, Some, None, codes, decimal, if◌then◌else◌}
use Rattle.regatta_terms.specs.Entries.{points_text}
use Rattle.regatta_scores.specs.declared.table.Abbrev.{Abbrev}
use Rattle.regatta_scores.specs.Abbreviations.{abbrev_text}
use Rattle.regatta_scores.specs.declared.table.Cell.{Cell}
use Rattle.regatta_scores.specs.declared.table.Row.{Row}
use Rattle.regatta_scores.specs.declared.table.Standing.{Standing}
use Rattle.regatta_tables.specs.Lines.{line}

-- a rank, with a sign of equality if A8 leaves boats tied for it
abbrev pub rank_text : ℕ → Bool → List ℕ
rank_text rank tied = decimal rank ++ (if tied then codes "=" else [])

-- an abbreviation after a slash
abbrev pub mark_text : Option Abbrev → List ℕ
mark_text None = []
mark_text (Some mark) = codes "/" ++ abbrev_text mark

-- a score in one race: points and abbreviation (A10), in parentheses if it is excluded (A2.1)
abbrev pub cell_text : Cell → List ℕ
cell_text cell =
    let score = points_text cell.points ++ mark_text cell.mark in
    if cell.dropped then codes "(" ++ score ++ codes ")" else score

-- a boat's rank, sail, net and score in each race that counts
abbrev pub row_words : Row → List (List ℕ)
row_words row =
    rank_text row.rank row.tied ∷ row.sail ∷ points_text row.net ∷ map cell_text row.cells

-- how many boats there are, and which races count
abbrev pub head_words : Standing → List (List ℕ)
head_words standing =
    codes "TABLE" ∷ decimal (length standing.rows) ∷ codes "RACES" ∷ map decimal standing.races

-- the head, and a row for each boat
abbrev pub table_text : Standing → List ℕ
table_text standing =
    line (head_words standing) ++ flat_map (λ row. line (row_words row)) standing.rows
