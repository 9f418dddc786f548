-- The rows of an entry list, each read alone.
use Rattle.std.specs.Prelude.{ℕ, List, [], ◌∷◌, map, position, slice_get, Option, Some, None}
use Rattle.std.specs.Prelude.{if◌then◌else◌}
use Rattle.csv.specs.Reading.{default_config, records, strip_bom}
use Rattle.regatta_terms.specs.Sails.{sail_of}
use Rattle.regatta_terms.specs.declared.sail.Sail.{Sail}
use Rattle.regatta_tables.specs.EntryLists.{Field, Record, is_blank, is_sail_heading, without_spaces}
use Rattle.regatta_tables.specs.declared.listed.Listed.{Listed}
use Rattle.regatta_tables.specs.declared.listed.Listed.TheVariants.{Blank, NoField, NoSail, Boat}

-- what a sail makes of its row
abbrev pub listed_sail : Option Sail → Listed
listed_sail None = NoSail
listed_sail (Some sail) = Boat sail

-- what the field in the column of sails makes of its row
abbrev pub listed_field : Option Field → Listed
listed_field None = NoField
listed_field (Some field) = listed_sail (sail_of (without_spaces field))

-- what a record names in that column
abbrev pub listed_in : ℕ → Record → Listed
listed_in column fields =
    if is_blank fields then Blank else listed_field (slice_get fields column)

-- what the records after the header name, given the column of sails
abbrev pub listed_under : Option ℕ → List Record → Option (List Listed)
listed_under None records = None
listed_under (Some column) records = Some (map (listed_in column) records)

-- what the records of a text name: the first of them is the header
abbrev pub listed_of : List Record → Option (List Listed)
listed_of [] = None
listed_of (header ∷ records) = listed_under (position is_sail_heading header) records

-- what the rows of an entry list name, after its header; none if that has no column of sails
abbrev pub listed_of_text : List ℕ → Option (List Listed)
listed_of_text text = listed_of (records default_config (strip_bom text))
