-- The text of a document, from its parts.
use Rattle.std.specs.Prelude.{ℕ, List, ◌++◌, codes, decimal}
use Rattle.regatta_json.specs.Rows.{rows, values}
use Rattle.regatta_explain.specs.declared.parts.BoatRows.{BoatRows}
use Rattle.regatta_explain.specs.declared.parts.Document.{Document}
use Rattle.regatta_explain.specs.declared.parts.RaceRows.{RaceRows}
use Rattle.regatta_explain.specs.declared.parts.RanksAfter.{RanksAfter}
use Rattle.regatta_json.specs.Fields.{field}
use Rattle.regatta_explain.specs.Rows.{boat_text, group_text, held_text, neighbour_text}
use Rattle.regatta_explain.specs.Rows.{race_text, rank_text, rules_text, score_text}

-- what a race is scored by, and its groups
unfoldable pub race_groups : RaceRows → List ℕ
race_groups race = race_text race.race ++ codes ",\"groups\":[\n" ++ rows group_text race.groups
    ++ codes "\n],\"boats\":[\n"

-- what each boat has in a race
unfoldable pub race_boats : RaceRows → List ℕ
race_boats race = rows held_text race.boats ++ codes "\n]}"

-- the rows of a race
unfoldable pub race_rows : RaceRows → List ℕ
race_rows race = race_groups race ++ race_boats race

-- the rows of a boat
unfoldable pub boat_rows : BoatRows → List ℕ
boat_rows boat = boat_text boat.boat ++ codes ",\"scores\":[\n" ++ rows score_text boat.scores
    ++ codes "\n]}"

-- the ranks after a race that counts
unfoldable pub after_row : RanksAfter → List ℕ
after_row after = field (codes "{\"race\":") (decimal after.race) ++ codes ",\"ranks\":["
    ++ values rank_text after.ranks ++ codes "]}"

-- the rules, and the last entry on which the table depends
unfoldable pub head_text : Document → List ℕ
head_text document = codes "{\"rules\":" ++ rules_text document.rules
    ++ field (codes ",\n\"last_entry\":") (decimal document.last_entry)

-- the races of which something is recorded
unfoldable pub races_text : Document → List ℕ
races_text document = codes ",\n\"races\":[\n" ++ rows race_rows document.races

-- the boats in the order of the table
unfoldable pub boats_text : Document → List ℕ
boats_text document = codes "\n],\n\"boats\":[\n" ++ rows boat_rows document.boats

-- neighbours with the same series score
unfoldable pub neighbours_text : Document → List ℕ
neighbours_text document = codes "\n],\n\"neighbours\":[\n"
    ++ rows neighbour_text document.neighbours

-- ranks after each race that counts
unfoldable pub after_text : Document → List ℕ
after_text document = codes "\n],\n\"after_each\":[\n" ++ rows after_row document.after_each
    ++ codes "\n]}\n"

-- the document
unfoldable pub document_text : Document → List ℕ
document_text document = head_text document ++ races_text document ++ boats_text document
    ++ neighbours_text document ++ after_text document
