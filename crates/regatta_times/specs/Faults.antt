-- The numbers and rows of faults.
use Rattle.std.specs.Prelude.{ℕ, List, Option, Some, None}
use Rattle.regatta_tables.specs.declared.entries.EntriesFault.{EntriesFault}
use Rattle.regatta_tables.specs.declared.entries.EntriesFault.TheVariants as entries
use Rattle.regatta_tables.specs.EntryLists.{number_of_entries_fault, row_of_entries_fault}
use Rattle.regatta_times.specs.declared.correcting.TimesFault.{TimesFault}
use Rattle.regatta_times.specs.declared.correcting.TimesFault.TheVariants as times
use Rattle.regatta_times.specs.declared.fault.SheetFault.{SheetFault}
use Rattle.regatta_times.specs.declared.fault.SheetFault.TheVariants as fault

-- the number that the program prints: from 1 to 6 those of an entry list
abbrev pub number_of_fault : SheetFault → ℕ
number_of_fault (fault.Sails sails) = number_of_entries_fault sails
number_of_fault fault.NoRatings = 7
number_of_fault (fault.BadRating row) = 8
number_of_fault (fault.NoRating row sail) = 9
number_of_fault (fault.BadTime row) = 10
number_of_fault (fault.NoTime row) = 11
number_of_fault (fault.TwoTimes row) = 12
number_of_fault (fault.FinishBeforeStart row sail) = 13
number_of_fault (fault.BadLaps row) = 14
number_of_fault (fault.BadDistance row) = 15
number_of_fault (fault.NotOfSystem row sail) = 16
number_of_fault (fault.Negative row sail) = 17
number_of_fault (fault.TooLong row sail) = 18
number_of_fault fault.NoMemory = 6

-- the row of a fault: the header's if a column is missing
abbrev pub row_of_fault : SheetFault → Option ℕ
row_of_fault (fault.Sails sails) = row_of_entries_fault sails
row_of_fault fault.NoRatings = Some 1
row_of_fault (fault.BadRating row) = Some row
row_of_fault (fault.NoRating row sail) = Some row
row_of_fault (fault.BadTime row) = Some row
row_of_fault (fault.NoTime row) = Some row
row_of_fault (fault.TwoTimes row) = Some row
row_of_fault (fault.FinishBeforeStart row sail) = Some row
row_of_fault (fault.BadLaps row) = Some row
row_of_fault (fault.BadDistance row) = Some row
row_of_fault (fault.NotOfSystem row sail) = Some row
row_of_fault (fault.Negative row sail) = Some row
row_of_fault (fault.TooLong row sail) = Some row
row_of_fault fault.NoMemory = None

-- a fault of the sails, as an entry list has it
abbrev pub fault_of_sails : EntriesFault → SheetFault
fault_of_sails entries.NoColumn = fault.Sails entries.NoColumn
fault_of_sails (entries.BadRow row) = fault.Sails (entries.BadRow row)
fault_of_sails (entries.BadSail row) = fault.Sails (entries.BadSail row)
fault_of_sails (entries.Twice row) = fault.Sails (entries.Twice row)
fault_of_sails (entries.TooMany row) = fault.Sails (entries.TooMany row)
fault_of_sails entries.NoMemory = fault.NoMemory

-- a fault of a corrected time, with the boat's row and her sail
abbrev pub fault_of_time : ℕ → List ℕ → TimesFault → SheetFault
fault_of_time row sail times.NotOfSystem = fault.NotOfSystem row sail
fault_of_time row sail times.Negative = fault.Negative row sail
fault_of_time row sail times.TooLong = fault.TooLong row sail
