-- The ratings of a class, record by record.
use Rattle.std.specs.Prelude.{ℕ, ◌+◌, ◌==◌, List, [], ◌∷◌, ◌++◌, length, Option, Some, None}
use Rattle.std.specs.Prelude.{option_map, Result, Ok, Err, if◌then◌else◌}
use Rattle.csv.specs.Reading.{default_config, records, strip_bom}
use Rattle.regatta_terms.specs.Lines.{◌>>=◌}
use Rattle.regatta_terms.specs.Sails.{sail_of}
use Rattle.regatta_terms.specs.declared.sail.Sail.{Sail}
use Rattle.regatta_scores.specs.Journal.{same_sail}
use Rattle.regatta_tables.specs.declared.entries.EntriesFault.{EntriesFault}
use Rattle.regatta_tables.specs.EntryLists.{Record, entries_of_text}
use Rattle.regatta_times.specs.declared.fault.SheetFault.{SheetFault}
use Rattle.regatta_times.specs.declared.fault.SheetFault.TheVariants as fault
use Rattle.regatta_times.specs.declared.ratings.Rated.{Rated}
use Rattle.regatta_times.specs.declared.system.Handicap.{Handicap}
use Rattle.regatta_times.specs.declared.system.Handicap.TheVariants.{ByFactor, ByNumber}
use Rattle.regatta_times.specs.declared.system.Handicap.TheVariants.{ByAllowance, ByAddition}
use Rattle.regatta_times.specs.declared.system.System.{System}
use Rattle.regatta_times.specs.declared.system.System.TheVariants.{Tcf, Py, Tod}
use Rattle.regatta_times.specs.Columns.{cell, column_of, plain, sail_column, title_of, titles}
use Rattle.regatta_times.specs.Faults.{fault_of_sails}
use Rattle.regatta_times.specs.Texts.{allowance_of, factor_of, portsmouth_of}

-- an allowance for each mile; with a minus in front it is added
abbrev pub signed_of : List ℕ → Option Handicap
signed_of [] = None
signed_of (b ∷ rest) =
    if b == 45 then option_map ByAddition (allowance_of rest)
    else option_map ByAllowance (allowance_of (b ∷ rest))

-- the rating that a text writes in this system
abbrev pub handicap_of : System → List ℕ → Option Handicap
handicap_of Tcf text = option_map ByFactor (factor_of text)
handicap_of Py text = option_map ByNumber (portsmouth_of text)
handicap_of Tod text = signed_of text

-- what records give in turn: each adds to what those before it gave, or has a fault. The header is
-- row 1
abbrev pub in_turn : {X : Type 0} → (ℕ → List X → Record → Result (List X) SheetFault) → ℕ
    → List X → List Record → Result (List X) SheetFault
in_turn add i xs [] = Ok xs
in_turn add i xs (fields ∷ records) =
    add (i + 2) xs fields >>= (λ more. in_turn add (i + 1) more records)

-- what was there, with what a record gives
abbrev pub with_found : {X : Type 0} → List X → Result (Option X) SheetFault
    → Result (List X) SheetFault
with_found xs (Err f) = Err f
with_found xs (Ok None) = Ok xs
with_found xs (Ok (Some x)) = Ok (xs ++ x ∷ [])

-- the boat with her rating, or the fault of its row
abbrev pub rated_as : ℕ → Sail → Option Handicap → Result (Option Rated) SheetFault
rated_as row sail None = Err (fault.BadRating row)
rated_as row sail (Some handicap) = Ok (Some (record { sail = sail; handicap = handicap }))

-- what a record says of a boat's rating: nothing if it names no sail, or if the rating is empty
abbrev pub rated_with : System → ℕ → Option Sail → List ℕ → Result (Option Rated) SheetFault
rated_with system row None text = Ok None
rated_with system row (Some sail) text =
    if length text == 0 then Ok None else rated_as row sail (handicap_of system text)

abbrev pub rated_of : System → Option ℕ → Option ℕ → ℕ → Record → Result (Option Rated) SheetFault
rated_of system sails ratings row fields =
    rated_with system row (sail_of (cell fields sails)) (cell fields ratings)

-- the ratings with that of one more record
abbrev pub rating_added : System → Option ℕ → Option ℕ → ℕ → List Rated → Record
    → Result (List Rated) SheetFault
rating_added system sails ratings row found fields =
    with_found found (rated_of system sails ratings row (plain fields))

-- the ratings of the records after the header, from those columns
abbrev pub ratings_under : System → Option ℕ → Option ℕ → List Record
    → Result (List Rated) SheetFault
ratings_under system sails None records = Err fault.NoRatings
ratings_under system sails (Some ratings) records =
    in_turn (rating_added system sails (Some ratings)) 0 [] records

-- the ratings of records; the first is the header
abbrev pub ratings_of : System → List ℕ → List Record → Result (List Rated) SheetFault
ratings_of system heading [] = Err fault.NoRatings
ratings_of system heading (header ∷ records) =
    ratings_under system (sail_column (titles header))
    (column_of (title_of heading) (titles header)) records

-- the sails of an entry list, or the fault of a list that isn't one
abbrev pub checked : Result (List Sail) EntriesFault → Result (List Sail) SheetFault
checked (Ok sails) = Ok sails
checked (Err f) = Err (fault_of_sails f)

-- the ratings of a list, in the column with this heading. It is an entry list, too: its sails are
-- read and refused as there
abbrev pub ratings_of_text : System → List ℕ → List ℕ → Result (List Rated) SheetFault
ratings_of_text system heading text =
    checked (entries_of_text text)
    >>= (λ sails. ratings_of system heading (records default_config (strip_bom text)))

-- the rating of a boat: the first that is hers
abbrev pub handicap_for : Sail → List Rated → Option Handicap
handicap_for sail [] = None
handicap_for sail (boat ∷ ratings) =
    if same_sail boat.sail sail then Some boat.handicap else handicap_for sail ratings
