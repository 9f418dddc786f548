-- Lists and sheets, record by record.
use Rattle.std.proofs.Common.{◌≡◌, ℕ, suc, ◌+◌, ◌<◌, ◌≤◌, List, [], ◌∷◌}
use Rattle.std.proofs.Common.{◌++◌, length, drop, map, get_or, Some, None, inl, inr}
use Rattle.std.proofs.Common.{◌⊎◌, ap, ◌∙◌, sym, arith}
use Rattle.std.specs.Prelude.{Result, Ok, Err, if◌then◌else◌}
use Rattle.std.proofs.lemmas.List.{get_or-map, drop_all, length-map}
use mathlib.Core.List.{map-map}
use Rattle.std.proofs.Math.Seq.{drop-cons}
use denote.Ref.{Bor}
use Rattle.csv.specs.Records.{Row, fields_of}
use Rattle.regatta_terms.specs.Lines.{◌>>=◌}
use Rattle.regatta_terms.specs.declared.sail.Sail.{Sail}
use Rattle.regatta_scores.specs.Journal.{same_sail}
use Rattle.regatta_tables.proofs.ListFacts.{rows_from}
use Rattle.regatta_tables.specs.EntryLists.{Record}
use Rattle.regatta_times.specs.declared.fault.SheetFault.{SheetFault}
use Rattle.regatta_times.specs.declared.fault.SheetFault.TheVariants.{NoMemory}
use Rattle.regatta_times.specs.declared.fraction.Rounding.{Rounding}
use Rattle.regatta_times.specs.declared.ratings.Rated.{Rated}
use Rattle.regatta_times.specs.declared.sheet.Boat.{Boat}
use Rattle.regatta_times.specs.declared.timing.Timed.{Timed}
use Rattle.regatta_times.specs.Ratings.{handicap_for, in_turn}
use Rattle.regatta_times.specs.Timings.{more_laps, most_laps, timed_after, timed_of}

-- ---- lists

-- what is still to come of a list begins with the item at this place
pub from_here : {X : Type 0} (xs : List X) (i : ℕ) (x : X) → i < length xs → x ≡ get_or xs i x
    → drop i xs ≡ x ∷ drop (i + 1) xs
from_here xs i x below here =
    let next : suc i ≡ i + 1 = omega arith in
    drop-cons xs i x below ∙ (λ j. sym here j ∷ drop (next j) xs)

-- texts of fields, seen through their references
pub texts_of : (f : List ℕ → List ℕ) (items : List (Bor (List ℕ))) (fields : List (List ℕ))
    → map (λ field. field.now) items ≡ fields → map (λ field. f field.now) items ≡ map f fields
texts_of f items fields same =
    sym (map-map f (λ (field : Bor (List ℕ)). field.now) items) ∙ ap (map f) same

-- ---- records in turn

-- the current row, and those after it
row_first : {X : Type 0} (add : ℕ → List X → Record → Result (List X) SheetFault)
    (rows : List Row) (i : ℕ) (row : Row) (xs : List X) → i < length rows → row ≡ get_or rows i row
    → in_turn add i xs (drop i (map fields_of rows))
    ≡ (add (i + 2) xs (fields_of row)
    >>= (λ more. in_turn add (i + 1) more (drop (i + 1) (map fields_of rows))))
row_first add rows i row xs below here = ap (in_turn add i xs) (rows_from rows i row below here)

-- a row that adds something
pub row_added : {X : Type 0} (add : ℕ → List X → Record → Result (List X) SheetFault)
    (rows : List Row) (i : ℕ) (row : Row) (xs more : List X) → i < length rows
    → row ≡ get_or rows i row
    → in_turn add i xs (drop i (map fields_of rows)) ≡ in_turn add 0 [] (map fields_of rows)
    → add (i + 2) xs (fields_of row) ≡ Ok more
    → in_turn add (i + 1) more (drop (i + 1) (map fields_of rows))
    ≡ in_turn add 0 [] (map fields_of rows)
row_added add rows i row xs more below here so_far added =
    sym (row_first add rows i row xs below here
    ∙ ap (λ (r : Result (List _) SheetFault). r
    >>= (λ more. in_turn add (i + 1) more (drop (i + 1) (map fields_of rows)))) added)
    ∙ so_far

-- a row with a fault, if an allocation may have failed
pub row_fault : {X : Type 0} (add : ℕ → List X → Record → Result (List X) SheetFault)
    (rows : List Row) (i : ℕ) (row : Row) (xs : List X) (fault : SheetFault) → i < length rows
    → row ≡ get_or rows i row
    → in_turn add i xs (drop i (map fields_of rows)) ≡ in_turn add 0 [] (map fields_of rows)
    → (fault ≡ NoMemory) ⊎ (add (i + 2) xs (fields_of row) ≡ Err fault)
    → (fault ≡ NoMemory) ⊎ (in_turn add 0 [] (map fields_of rows) ≡ Err fault)
row_fault add rows i row xs fault below here so_far (inl full) = inl full
row_fault add rows i row xs fault below here so_far (inr faulty) =
    inr (sym so_far ∙ row_first add rows i row xs below here
    ∙ ap (λ (r : Result (List _) SheetFault). r
    >>= (λ more. in_turn add (i + 1) more (drop (i + 1) (map fields_of rows)))) faulty)

-- all rows
pub rows_end : {X : Type 0} (add : ℕ → List X → Record → Result (List X) SheetFault)
    (rows : List Row) (i : ℕ) (xs : List X) → length rows ≤ i
    → in_turn add i xs (drop i (map fields_of rows)) ≡ in_turn add 0 [] (map fields_of rows)
    → in_turn add 0 [] (map fields_of rows) ≡ Ok xs
rows_end add rows i xs end so_far =
    sym so_far ∙ ap (in_turn add i xs)
    (drop_all i (map fields_of rows) (omega (arith, length-map rows fields_of)))

-- ---- ratings

-- a boat of the list, and those after her
pub handicap_from : (sail : Sail) (ratings : List Rated) (i : ℕ) (boat : Rated)
    → i < length ratings → boat ≡ get_or ratings i boat
    → handicap_for sail (drop i ratings)
    ≡ (if same_sail boat.sail sail then Some boat.handicap
    else handicap_for sail (drop (i + 1) ratings))
handicap_from sail ratings i boat below here =
    ap (handicap_for sail) (from_here ratings i boat below here)

pub handicap_end : (sail : Sail) (ratings : List Rated) (i : ℕ) → length ratings ≤ i
    → handicap_for sail (drop i ratings) ≡ None
handicap_end sail ratings i end = ap (handicap_for sail) (drop_all i ratings end)

-- ---- times

pub most_from : (most : ℕ) (boats : List Boat) (i : ℕ) (boat : Boat) → i < length boats
    → boat ≡ get_or boats i boat
    → most_laps most (drop i boats) ≡ most_laps (more_laps most boat.laps) (drop (i + 1) boats)
most_from most boats i boat below here = ap (most_laps most) (from_here boats i boat below here)

pub most_end : (most : ℕ) (boats : List Boat) (i : ℕ) → length boats ≤ i
    → most_laps most (drop i boats) ≡ most
most_end most boats i end = ap (most_laps most) (drop_all i boats end)
