-- Entry lists.
use Rattle.std.specs.Prelude.{ℕ, ◌+◌, Bool, not, ◌||◌, List, [], ◌∷◌, ◌++◌, length, nat_le, filter}
use Rattle.std.specs.Prelude.{filter_map, position, slice_get, Option, Some, None, option_and_then}
use Rattle.std.specs.Prelude.{Result, Ok, Err, codes, if◌then◌else◌}
use Rattle.std.specs.Option.{option_or}
use Rattle.std.specs.List.{list_all, list_any}
use Rattle.csv.specs.Reading.{default_config, records, strip_bom}
use Rattle.regatta_terms.specs.Sails.{sail_of}
use Rattle.regatta_terms.specs.Words.{is_space, says}
use Rattle.regatta_terms.specs.declared.sail.Sail.{Sail}
use Rattle.regatta_scores.specs.Journal.{same_sail}
use Rattle.regatta_terms.specs.declared.limits.TheConstants.{MAX_BOATS}
use Rattle.regatta_tables.specs.declared.entries.EntriesFault.{EntriesFault}
use Rattle.regatta_tables.specs.declared.entries.EntriesFault.TheVariants.{NoColumn, BadRow}
use Rattle.regatta_tables.specs.declared.entries.EntriesFault.TheVariants.{BadSail, Twice, TooMany}
use Rattle.regatta_tables.specs.declared.entries.EntriesFault.TheVariants.{NoMemory}

-- a field is its bytes
abbrev pub Field : Type 0
Field = List ℕ

-- a record is its fields, as `csv` reads them
abbrev pub Record : Type 0
Record = List Field

-- a field without its spaces, wherever they are
abbrev pub without_spaces : Field → List ℕ
without_spaces field = filter (λ b. not (is_space b)) field

-- whether a field of the header heads a column of sails: it says so in letters of either case
abbrev pub is_sail_heading : Field → Bool
is_sail_heading field =
    says (without_spaces field) (codes "SAIL") || says (without_spaces field) (codes "SAILNO")
    || says (without_spaces field) (codes "SAILNUMBER")

-- whether a record is blank and so skipped: each of its fields is empty or spaces
abbrev pub is_blank : Record → Bool
is_blank fields = list_all (list_all is_space) fields

-- the sail that a record names in that column, if it names one
abbrev pub sail_in : ℕ → Record → Option Sail
sail_in column fields =
    option_and_then (λ field. sail_of (without_spaces field)) (slice_get fields column)

-- the sails that records name, in order
abbrev pub sails_in : ℕ → List Record → List Sail
sails_in column records =
    filter_map (sail_in column) (filter (λ fields. not (is_blank fields)) records)

-- what is wrong with the sail in that row, given the sails of the rows before it: it can't be read,
-- it is among them, or there are as many of them as may be; the first of these counts
abbrev pub fault_of_sail : ℕ → List Sail → Option Sail → Option EntriesFault
fault_of_sail row sails None = Some (BadSail row)
fault_of_sail row sails (Some sail) =
    if list_any (λ other. same_sail other sail) sails then Some (Twice row)
    else if nat_le MAX_BOATS (length sails) then Some (TooMany row)
    else None

-- what is wrong with the field in the column of sails
abbrev pub fault_of_field : ℕ → List Sail → Option Field → Option EntriesFault
fault_of_field row sails None = Some (BadRow row)
fault_of_field row sails (Some field) = fault_of_sail row sails (sail_of (without_spaces field))

-- what is wrong with a record in that row: the first that applies, and nothing if it is blank
abbrev pub fault_in : ℕ → ℕ → List Sail → Record → Option EntriesFault
fault_in column row sails fields =
    if is_blank fields then None else fault_of_field row sails (slice_get fields column)

-- the same, given the records between the header and it
abbrev pub fault_of : ℕ → List Record → Record → Option EntriesFault
fault_of column before fields =
    fault_in column (length before + 2) (sails_in column before) fields

-- the first fault of records, given the records between the header and them
abbrev pub first_fault : ℕ → List Record → List Record → Option EntriesFault
first_fault column before [] = None
first_fault column before (fields ∷ records) =
    option_or (fault_of column before fields) (first_fault column (before ++ fields ∷ []) records)

-- the sails, unless there is a fault
abbrev pub unless_faulty : Option EntriesFault → List Sail → Result (List Sail) EntriesFault
unless_faulty None sails = Ok sails
unless_faulty (Some fault) sails = Err fault

-- what the records after the header read as, given the column of sails
abbrev pub entries_under : Option ℕ → List Record → Result (List Sail) EntriesFault
entries_under None records = Err NoColumn
entries_under (Some column) records =
    unless_faulty (first_fault column [] records) (sails_in column records)

-- what the records of a text read as: the first of them is the header
abbrev pub entries_of : List Record → Result (List Sail) EntriesFault
entries_of [] = Err NoColumn
entries_of (header ∷ records) = entries_under (position is_sail_heading header) records

-- what an entry list reads as: its records are those that `csv` reads by default in the text, after
-- a byte order mark if it begins with one
abbrev pub entries_of_text : List ℕ → Result (List Sail) EntriesFault
entries_of_text text = entries_of (records default_config (strip_bom text))

-- the number that the program prints for a fault
abbrev pub number_of_entries_fault : EntriesFault → ℕ
number_of_entries_fault NoColumn = 1
number_of_entries_fault (BadRow row) = 2
number_of_entries_fault (BadSail row) = 3
number_of_entries_fault (Twice row) = 4
number_of_entries_fault (TooMany row) = 5
number_of_entries_fault NoMemory = 6

-- the row of a fault: the header's if there is no column of sails
abbrev pub row_of_entries_fault : EntriesFault → Option ℕ
row_of_entries_fault NoColumn = Some 1
row_of_entries_fault (BadRow row) = Some row
row_of_entries_fault (BadSail row) = Some row
row_of_entries_fault (Twice row) = Some row
row_of_entries_fault (TooMany row) = Some row
row_of_entries_fault NoMemory = None
