-- Every boat that a sheet names as an entry list is read, in the order of the list.
use Rattle.std.proofs.Common.{◌≡◌, ℕ, zero, suc, ◌+◌, Bool, true, false, not, cond, ◌&&◌, List, []}
use Rattle.std.proofs.Common.{◌∷◌, ◌++◌, map, filter, filter_map, Option, Some, None, refl}
use Rattle.std.proofs.Common.{ap, ◌∙◌, sym, append_assoc, append-nil}
use Rattle.std.specs.Prelude.{Result, Ok, Err}
use Rattle.std.specs.List.{cons_option, list_all, position, position_or_len, slice_get}
use Rattle.std.specs.Option.{option_and_then, option_map}
use Rattle.std.proofs.lemmas.List.{length-map, map-append}
use Rattle.std.proofs.lemmas.Option.{slice_get-map}
use lib.Dec.{ltb}
use Rattle.csv.specs.Reading.{default_config, records, strip_bom}
use Rattle.regatta_terms.proofs.Both.{both}
use Rattle.regatta_terms.specs.Lines.{◌>>=◌}
use Rattle.regatta_terms.specs.Sails.{sail_of}
use Rattle.regatta_terms.specs.Words.{is_space}
use Rattle.regatta_terms.specs.declared.sail.Sail.{Sail}
use Rattle.regatta_tables.proofs.ListFacts.{sails-append}
use Rattle.regatta_tables.specs.declared.entries.EntriesFault.{EntriesFault}
use Rattle.regatta_tables.specs.EntryLists.{Field, Record, entries_of, entries_of_text}
use Rattle.regatta_tables.specs.EntryLists.{entries_under, first_fault, is_blank, is_sail_heading}
use Rattle.regatta_tables.specs.EntryLists.{sail_in, sails_in, unless_faulty, without_spaces}
use Rattle.regatta_times.specs.declared.columns.Columns.{Columns}
use Rattle.regatta_times.specs.declared.fault.SheetFault.{SheetFault}
use Rattle.regatta_times.specs.declared.ratings.Rated.{Rated}
use Rattle.regatta_times.specs.declared.sheet.Boat.{Boat}
use Rattle.regatta_times.specs.Columns.{cell, columns_of, is_sail_title, plain, sail_column}
use Rattle.regatta_times.specs.Columns.{text_or_none, title_of, titles}
use Rattle.regatta_times.specs.Ratings.{checked, in_turn, with_found}
use Rattle.regatta_times.specs.Sheets.{boat_added, boat_named, boat_with, boats_of, boats_of_text}
use Rattle.regatta_times.specs.Sheets.{distance_at, elapsed_at, found, handicap_at, laps_at}
use Rattle.regatta_times.specs.Sheets.{rating_at, start_at}

abbrev sails_of : List Boat → List Sail
sails_of boats = map (λ boat. boat.sail) boats

same_ok : {A E : Type 0} (x y : A) → ◌≡◌ {A = Result A E} (Ok x) (Ok y) → x ≡ y
same_ok x y h = cc

-- what follows from a step that succeeded, and the next one
then_holds : {A B : Type 0} (P : Type 0) (r : Result A SheetFault) (f : A → Result B SheetFault)
    (b : B) → (r >>= f) ≡ Ok b → ((a : A) → r ≡ Ok a → f a ≡ Ok b → P) → P
then_holds P (Ok a) f b h step = step a refl h
then_holds P (Err e) f b h step = cc

-- the boat of a row has the sail of the row
boat_sail : (ratings : List Rated) (overnight : Bool) (columns : Columns) (row : ℕ)
    (boats : List Boat) (fields : Record) (sail : Sail) (boat : Boat)
    → boat_with ratings overnight columns row boats fields sail ≡ Ok boat → boat.sail ≡ sail
unfolding boat_with
boat_sail ratings overnight columns row boats fields sail boat h =
    then_holds (boat.sail ≡ sail) (handicap_at row sail ratings) _ boat h (λ handicap _ h1.
    then_holds (boat.sail ≡ sail) (start_at row boats (cell fields columns.start)) _ boat h1
    (λ start _ h2.
    then_holds (boat.sail ≡ sail) (elapsed_at row sail overnight start (cell fields columns.elapsed)
    (cell fields columns.finish)) _ boat h2 (λ elapsed _ h3.
    then_holds (boat.sail ≡ sail) (laps_at row boats (cell fields columns.laps)) _ boat h3
    (λ laps _ h4.
    then_holds (boat.sail ≡ sail) (distance_at row boats (cell fields columns.distance)) _ boat h4
    (λ distance _ h5.
    then_holds (boat.sail ≡ sail) (rating_at row handicap distance) _ boat h5 (λ rating _ h6.
    ap (λ (b : Boat). b.sail) (sym (same_ok _ _ h6))))))))

-- ---- a record

no_bytes : (field : Field) → list_all is_space field ≡ true → without_spaces field ≡ []
no_bytes [] blank = refl
no_bytes (b ∷ bs) blank =
    let parts = both (is_space b) (list_all is_space bs) blank in
    ap (λ (t : Bool). cond (not t) (b ∷ without_spaces bs) (without_spaces bs)) parts.0
    ∙ no_bytes bs parts.1

-- a blank record names no sail
blank_none : (fields : Record) (column : ℕ) → is_blank fields ≡ true
    → sail_in column fields ≡ None
blank_none [] column blank = refl
blank_none (field ∷ fields) zero blank =
    ap sail_of (no_bytes field (both (list_all is_space field) (is_blank fields) blank).0)
blank_none (field ∷ fields) (suc column) blank =
    blank_none fields column (both (list_all is_space field) (is_blank fields) blank).1

one_record : (column : ℕ) (fields : Record)
    → sails_in column (fields ∷ []) ≡ cons_option (sail_in column fields) []
one_record column fields = by (is_blank fields) refl
  where
    by : (blank : Bool) → is_blank fields ≡ blank
        → filter_map (sail_in column) (cond (not blank) (fields ∷ []) [])
        ≡ cons_option (sail_in column fields) []
    by true is = sym (ap (λ (o : Option Sail). cons_option o []) (blank_none fields column is))
    by false is = refl

-- a sail is read in the same field, whether spaces are taken out before or after
read_same : (fields : Record) (column : ℕ)
    → sail_of (cell (plain fields) (Some column)) ≡ sail_in column fields
read_same fields column =
    ap (λ (o : Option Field). sail_of (text_or_none o)) (slice_get-map without_spaces fields column)
    ∙ by (slice_get fields column)
  where
    by : (o : Option Field) → sail_of (text_or_none (option_map without_spaces o))
        ≡ option_and_then (λ field. sail_of (without_spaces field)) o
    by None = refl
    by (Some field) = refl

record_sails : (ratings : List Rated) (overnight : Bool) (columns : Columns) (row column : ℕ)
    (boats more : List Boat) (fields : Record) → columns.sail ≡ Some column
    → boat_added ratings overnight columns row boats fields ≡ Ok more
    → sails_of more ≡ sails_of boats ++ sails_in column (fields ∷ [])
record_sails ratings overnight columns row column boats more fields is added =
    by (sail_of (cell (plain fields) columns.sail)) refl added
  where
    named : sail_of (cell (plain fields) columns.sail) ≡ sail_in column fields
    named = ap (λ (c : Option ℕ). sail_of (cell (plain fields) c)) is ∙ read_same fields column

    listed : (o : Option Sail) → sail_of (cell (plain fields) columns.sail) ≡ o
        → sails_in column (fields ∷ []) ≡ cons_option o []
    listed o n = one_record column fields
        ∙ ap (λ (o : Option Sail). cons_option o []) (sym named ∙ n)

    read : (sail : Sail) (r : Result Boat SheetFault)
        → boat_with ratings overnight columns row boats (plain fields) sail ≡ r
        → with_found boats (found r) ≡ Ok more → sails_of more ≡ sails_of boats ++ sail ∷ []
    read sail (Ok boat) made h = ap sails_of (sym (same_ok _ _ h))
        ∙ map-append (λ (boat : Boat). boat.sail) boats (boat ∷ [])
        ∙ ap (λ (s : Sail). sails_of boats ++ s ∷ [])
        (boat_sail ratings overnight columns row boats (plain fields) sail boat made)
    read sail (Err f) made h = cc

    by : (o : Option Sail) → sail_of (cell (plain fields) columns.sail) ≡ o
        → with_found boats (boat_named ratings overnight columns row boats (plain fields) o)
        ≡ Ok more → sails_of more ≡ sails_of boats ++ sails_in column (fields ∷ [])
    by None n h = ap sails_of (sym (same_ok _ _ h)) ∙ sym (append-nil (sails_of boats))
        ∙ ap (λ (s : List Sail). sails_of boats ++ s) (sym (listed None n))
    by (Some sail) n h = read sail _ refl h
        ∙ ap (λ (s : List Sail). sails_of boats ++ s) (sym (listed (Some sail) n))

-- ---- all records

turn_sails : (ratings : List Rated) (overnight : Bool) (columns : Columns) (column i : ℕ)
    (boats all : List Boat) (records : List Record) → columns.sail ≡ Some column
    → in_turn (boat_added ratings overnight columns) i boats records ≡ Ok all
    → sails_of all ≡ sails_of boats ++ sails_in column records
turn_sails ratings overnight columns column i boats all [] is read =
    ap sails_of (sym (same_ok _ _ read)) ∙ sym (append-nil (sails_of boats))
turn_sails ratings overnight columns column i boats all (fields ∷ records) is read =
    then_holds (sails_of all ≡ sails_of boats ++ sails_in column (fields ∷ records))
    (boat_added ratings overnight columns (i + 2) boats fields)
    (λ more. in_turn (boat_added ratings overnight columns) (i + 1) more records) all read
    (λ more added rest.
    turn_sails ratings overnight columns column (i + 1) more all records is rest
    ∙ ap (λ (s : List Sail). s ++ sails_in column records)
    (record_sails ratings overnight columns (i + 2) column boats more fields is added)
    ∙ append_assoc (sails_of boats) (sails_in column (fields ∷ [])) (sails_in column records)
    ∙ ap (λ (s : List Sail). sails_of boats ++ s) (sym (sails-append column (fields ∷ []) records)))

-- ---- the column of sails

place-titles : (header : Record) → position_or_len is_sail_title (titles header)
    ≡ position_or_len is_sail_heading header
place-titles [] = refl
place-titles (field ∷ header) =
    ap (λ (n : ℕ). cond (not (is_sail_heading field)) (1 + n) 0) (place-titles header)

column_same : (header : Record) → sail_column (titles header) ≡ position is_sail_heading header
column_same header = λ i. cond (ltb (place-titles header i) (length-map header title_of i))
    (Some (place-titles header i)) None

-- ---- the whole sheet

sails_under : (column : ℕ) (records : List Record) (sails : List Sail)
    → entries_under (Some column) records ≡ Ok sails → sails_in column records ≡ sails
sails_under column records sails read = by (first_fault column [] records) read
  where
    by : (o : Option EntriesFault) → unless_faulty o (sails_in column records) ≡ Ok sails
        → sails_in column records ≡ sails
    by None h = same_ok _ _ h
    by (Some fault) h = cc

all_sails : (ratings : List Rated) (overnight : Bool) (rows : List Record) (sails : List Sail)
    (boats : List Boat) → entries_of rows ≡ Ok sails → boats_of ratings overnight rows ≡ Ok boats
    → sails ≡ sails_of boats
all_sails ratings overnight [] sails boats listed read = cc
all_sails ratings overnight (header ∷ rows) sails boats listed read =
    by (position is_sail_heading header) refl listed
  where
    by : (o : Option ℕ) → position is_sail_heading header ≡ o → entries_under o rows ≡ Ok sails
        → sails ≡ sails_of boats
    by None is h = cc
    by (Some column) is h = sym (sails_under column rows sails h)
        ∙ sym (turn_sails ratings overnight (columns_of (titles header)) column 0 [] boats rows
        (column_same header ∙ is) read)

pub every_boat : (ratings : List Rated) (overnight : Bool) (text : List ℕ) (boats : List Boat)
    → boats_of_text ratings overnight text ≡ Ok boats
    → entries_of_text text ≡ Ok (map (λ boat. boat.sail) boats)
every_boat ratings overnight text boats read = by (entries_of_text text) refl read
  where
    by : (r : Result (List Sail) EntriesFault) → entries_of_text text ≡ r
        → (checked r >>= (λ sails. boats_of ratings overnight
        (records default_config (strip_bom text)))) ≡ Ok boats → r ≡ Ok (sails_of boats)
    by (Ok sails) listed h = ap Ok (all_sails ratings overnight
        (records default_config (strip_bom text)) sails boats listed h)
    by (Err f) listed h = cc
