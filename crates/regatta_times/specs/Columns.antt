-- The columns of lists and sheets.
use Rattle.std.specs.Prelude.{ℕ, Bool, ◌||◌, List, [], map, position, slice_get}
use Rattle.std.specs.Prelude.{Option, Some, None, codes}
use Rattle.std.specs.Str.{bytes_eq, str_to_ascii_uppercase}
use Rattle.regatta_tables.specs.EntryLists.{Field, Record, without_spaces}
use Rattle.regatta_times.specs.declared.columns.Columns.{Columns}

-- the fields of a record, without their spaces
abbrev pub plain : Record → Record
plain fields = map without_spaces fields

-- the title of a column: its heading without spaces, in capital letters
abbrev pub title_of : Field → List ℕ
title_of field = str_to_ascii_uppercase (without_spaces field)

abbrev pub titles : Record → List (List ℕ)
titles header = map title_of header

-- the titles of a column of sails, as in an entry list
abbrev pub is_sail_title : List ℕ → Bool
is_sail_title title =
    bytes_eq title (codes "SAIL") || bytes_eq title (codes "SAILNO")
    || bytes_eq title (codes "SAILNUMBER")

-- the first column of sails
abbrev pub sail_column : List (List ℕ) → Option ℕ
sail_column titles = position is_sail_title titles

-- the first column with this title
abbrev pub column_of : List ℕ → List (List ℕ) → Option ℕ
column_of name titles = position (λ title. bytes_eq title name) titles

-- the columns of a sheet of times
abbrev pub columns_of : List (List ℕ) → Columns
columns_of titles = record {
  sail = sail_column titles;
  elapsed = column_of (codes "ELAPSED") titles;
  start = column_of (codes "START") titles;
  finish = column_of (codes "FINISH") titles;
  laps = column_of (codes "LAPS") titles;
  distance = column_of (codes "DISTANCE") titles;
}

-- the field, or nothing
abbrev pub text_or_none : Option Field → Field
text_or_none None = []
text_or_none (Some field) = field

-- the field in a column: nothing without a column, or if the record is too short
abbrev pub cell : Record → Option ℕ → Field
cell fields None = []
cell fields (Some column) = text_or_none (slice_get fields column)
