-- No boat is in an entry list twice.
use Rattle.std.proofs.Common.{◌≡◌, ℕ, List, [], ◌∷◌, Ok, Option, Some, None}
use Rattle.std.specs.List.{IsDistinct, position}
use Rattle.csv.specs.Reading.{default_config, records, strip_bom}
use Rattle.regatta_terms.specs.declared.sail.Sail.{Sail}
use Rattle.regatta_scores.specs.Journal.{same_sail}
use Rattle.regatta_tables.specs.EntryLists.{Record, entries_of, entries_of_text, entries_under}
use Rattle.regatta_tables.specs.EntryLists.{is_sail_heading}
use Rattle.regatta_tables.proofs.ListLaws.{sails_once}

under : (column : Option ℕ) (rs : List Record) (sails : List Sail) → entries_under column rs ≡ Ok sails
    → IsDistinct same_sail sails
under None rs sails is = absurd cc
under (Some column) rs sails is = sails_once column rs sails is

of_records : (all : List Record) (sails : List Sail) → entries_of all ≡ Ok sails
    → IsDistinct same_sail sails
of_records [] sails is = absurd cc
of_records (header ∷ rs) sails is = under (position is_sail_heading header) rs sails is

pub listed_once : (text : List ℕ) (sails : List Sail) → entries_of_text text ≡ Ok sails
    → IsDistinct same_sail sails
listed_once text sails read = of_records (records default_config (strip_bom text)) sails read
