-- Entry lists, record by record.
use Rattle.std.proofs.Common.{◌≡◌, ℕ, zero, suc, ◌+◌, ◌<◌, ◌≤◌, Bool, true, false, not, cond, List}
use Rattle.std.proofs.Common.{[], ◌∷◌, ◌++◌, length, take, drop, map, filter, filter_map, get_or}
use Rattle.std.proofs.Common.{Option, Some, None, inl, inr, ◌⊎◌, refl, ap, ◌∙◌, sym}
use Rattle.std.proofs.Common.{arith}
use Rattle.std.specs.List.{list_all, position, position_or_len}
use Rattle.std.specs.Prelude.{Ok, Err}
use Rattle.std.specs.Option.{option_or}
use Rattle.std.proofs.lemmas.List.{take_more, take_all, get_or-map, drop_all, length-map}
use Rattle.std.proofs.lemmas.List.{length-take}
use Rattle.std.proofs.lemmas.List.Elements.{filter-append, filter_map-append}
use Rattle.std.proofs.lemmas.List.Folds.{list_all-map}
use Rattle.std.proofs.lemmas.List.Sums.{position_or_len_is}
use Rattle.std.proofs.Math.Seq.{drop-cons}
use denote.Ref.{Bor}
use lib.Dec.{ltb}
use borrow.Author.Tests.{lt-ltb}
use Rattle.std.proofs.lemmas.Bool.Decides.{nat_tests}
use Rattle.csv.specs.Records.{Row, field_at, fields_of}
use Rattle.regatta_terms.specs.Words.{is_space}
use Rattle.regatta_terms.specs.declared.sail.Sail.{Sail}
use Rattle.regatta_tables.specs.declared.entries.EntriesFault.{EntriesFault}
use Rattle.regatta_tables.specs.declared.entries.EntriesFault.TheVariants.{NoMemory}
use Rattle.regatta_tables.specs.EntryLists.{Record, entries_under, fault_in, fault_of, first_fault}
use Rattle.regatta_tables.specs.EntryLists.{is_blank, is_sail_heading, sail_in, sails_in}
use Rattle.regatta_tables.specs.EntryLists.{unless_faulty}

-- a field more
pub field_more : (fields : List (List ℕ)) (i : ℕ) (field : List ℕ) → field_at fields i ≡ Some field
    → take (i + 1) fields ≡ take i fields ++ field ∷ []
unfolding field_at
field_more [] i field h = cc
field_more (f ∷ fs) zero field h =
    let same : f ≡ field = cc in ap (λ (g : List ℕ). g ∷ []) same
field_more (f ∷ fs) (suc i) field h =
    let step : suc i + 1 ≡ suc (i + 1) = omega arith in
    rw step (ap (λ (gs : List (List ℕ)). f ∷ gs) (field_more fs i field h))

-- no field more
pub field_none : (fields : List (List ℕ)) (i : ℕ) → field_at fields i ≡ None
    → take i fields ≡ fields
unfolding field_at
field_none [] zero h = refl
field_none [] (suc i) h = refl
field_none (f ∷ fs) zero h = cc
field_none (f ∷ fs) (suc i) h = ap (λ (gs : List (List ℕ)). f ∷ gs) (field_none fs i h)

-- blank fields, seen through their references
pub blank_fields : (fields : List (Bor (List ℕ)))
    → is_blank (map (λ field. field.now) fields)
    ≡ list_all (λ field. list_all is_space field.now) fields
blank_fields fields = list_all-map (list_all is_space) (λ field. field.now) fields

-- ---- faults in turn

-- the record of a row, and those after it
pub rows_from : (rows : List Row) (i : ℕ) (row : Row) → i < length rows → row ≡ get_or rows i row
    → drop i (map fields_of rows) ≡ fields_of row ∷ drop (i + 1) (map fields_of rows)
rows_from rows i row below here =
    let first : get_or (map fields_of rows) i (fields_of row)
    ≡ fields_of row = get_or-map fields_of rows i row (fields_of row) below
    ∙ sym (ap fields_of here) in
    let next : suc i ≡ i + 1 = omega arith in
    drop-cons (map fields_of rows) i (fields_of row) (omega (arith, length-map rows fields_of))
    ∙ (λ j. first j ∷ drop (next j) (map fields_of rows))

rows_to : (rows : List Row) (i : ℕ) (row : Row) → i < length rows → row ≡ get_or rows i row
    → take (i + 1) (map fields_of rows) ≡ take i (map fields_of rows) ++ fields_of row ∷ []
rows_to rows i row below here =
    take_more (map fields_of rows) i (fields_of row) (omega (arith, length-map rows fields_of))
    ∙ ap (λ (fields : Record). take i (map fields_of rows) ++ fields ∷ [])
    (get_or-map fields_of rows i row (fields_of row) below ∙ sym (ap fields_of here))

-- the sails of records, and of those after them
pub sails-append : (column : ℕ) (before after : List Record)
    → sails_in column (before ++ after) ≡ sails_in column before ++ sails_in column after
sails-append column before after =
    ap (filter_map (sail_in column)) (filter-append (λ fields. not (is_blank fields)) before after)
    ∙ filter_map-append (sail_in column) (filter (λ fields. not (is_blank fields)) before)
    (filter (λ fields. not (is_blank fields)) after)

-- the sails of a row more
pub sails_more : (column : ℕ) (rows : List Row) (i : ℕ) (row : Row) (sails new : List Sail)
    → i < length rows → row ≡ get_or rows i row
    → sails ≡ sails_in column (take i (map fields_of rows))
    → new ≡ sails ++ sails_in column (fields_of row ∷ [])
    → new ≡ sails_in column (take (i + 1) (map fields_of rows))
sails_more column rows i row sails new below here so_far added =
    added ∙ ap (λ (s : List Sail). s ++ sails_in column (fields_of row ∷ [])) so_far
    ∙ sym (sails-append column (take i (map fields_of rows)) (fields_of row ∷ []))
    ∙ ap (sails_in column) (sym (rows_to rows i row below here))

-- the fault of a row, by its number and the sails before it
fault_here : (column : ℕ) (rows : List Row) (i number : ℕ) (row : Row) (sails : List Sail)
    → i < length rows → number ≡ i + 2 → sails ≡ sails_in column (take i (map fields_of rows))
    → fault_in column number sails (fields_of row)
    ≡ fault_of column (take i (map fields_of rows)) (fields_of row)
fault_here column rows i number row sails below counts so_far =
    let same : number ≡ length (take i (map fields_of rows)) + 2 = omega
    (arith, length-take i (map fields_of rows), length-map rows fields_of) in
    λ j. fault_in column (same j) (so_far j) (fields_of row)

-- the first fault is that of the current row, or of those after it
in_turn : (column : ℕ) (rows : List Row) (i : ℕ) (row : Row) → i < length rows
    → row ≡ get_or rows i row → first_fault column (take i (map fields_of rows))
    (drop i (map fields_of rows)) ≡ option_or (fault_of column (take i (map fields_of rows))
    (fields_of row)) (first_fault column (take (i + 1) (map fields_of rows))
    (drop (i + 1) (map fields_of rows)))
in_turn column rows i row below here =
    ap (first_fault column (take i (map fields_of rows))) (rows_from rows i row below here)
    ∙ ap (λ (before : List Record). option_or (fault_of column (take i (map fields_of rows))
    (fields_of row)) (first_fault column before (drop (i + 1) (map fields_of rows))))
    (sym (rows_to rows i row below here))

-- a row without a fault
pub sound_more : (column : ℕ) (rows : List Row) (i number : ℕ) (row : Row) (sails : List Sail)
    → i < length rows → row ≡ get_or rows i row → number ≡ i + 2
    → sails ≡ sails_in column (take i (map fields_of rows))
    → fault_in column number sails (fields_of row) ≡ None
    → first_fault column (take i (map fields_of rows)) (drop i (map fields_of rows))
    ≡ first_fault column (take (i + 1) (map fields_of rows)) (drop (i + 1) (map fields_of rows))
sound_more column rows i number row sails below here counts so_far sound =
    in_turn column rows i row below here
    ∙ ap (λ (o : Option EntriesFault). option_or o
    (first_fault column (take (i + 1) (map fields_of rows))
    (drop (i + 1) (map fields_of rows)))) (sym
    (fault_here column rows i number row sails below counts so_far) ∙ sound)

-- a row with a fault
pub faulty_row : (column : ℕ) (rows : List Row) (i number : ℕ) (row : Row) (sails : List Sail)
    (fault : EntriesFault) → i < length rows → row ≡ get_or rows i row → number ≡ i + 2
    → sails ≡ sails_in column (take i (map fields_of rows))
    → first_fault column [] (map fields_of rows)
    ≡ first_fault column (take i (map fields_of rows)) (drop i (map fields_of rows))
    → fault_in column number sails (fields_of row) ≡ Some fault
    → entries_under (Some column) (map fields_of rows) ≡ Err fault
faulty_row column rows i number row sails fault below here counts so_far all faulty =
    ap (λ (o : Option EntriesFault). unless_faulty o (sails_in column (map fields_of rows)))
    (all ∙ in_turn column rows i row below here
    ∙ ap (λ (o : Option EntriesFault). option_or o
    (first_fault column (take (i + 1) (map fields_of rows))
    (drop (i + 1) (map fields_of rows)))) (sym
    (fault_here column rows i number row sails below counts so_far) ∙ faulty))

-- the same, if an allocation may have failed
pub told_fault : (column : ℕ) (rows : List Row) (i number : ℕ) (row : Row) (sails : List Sail)
    (fault : EntriesFault) → i < length rows → row ≡ get_or rows i row → number ≡ i + 2
    → sails ≡ sails_in column (take i (map fields_of rows))
    → first_fault column [] (map fields_of rows)
    ≡ first_fault column (take i (map fields_of rows)) (drop i (map fields_of rows))
    → (fault ≡ NoMemory) ⊎ (fault_in column number sails (fields_of row) ≡ Some fault)
    → (fault ≡ NoMemory) ⊎ (entries_under (Some column) (map fields_of rows) ≡ Err fault)
told_fault column rows i number row sails fault below here counts so_far all (inl full) = inl full
told_fault column rows i number row sails fault below here counts so_far all (inr faulty) =
    inr (faulty_row column rows i number row sails fault below here counts so_far all faulty)

-- every row is without a fault
pub all_sound : (column : ℕ) (rows : List Row) (i : ℕ) (sails : List Sail) → length rows ≤ i
    → sails ≡ sails_in column (take i (map fields_of rows))
    → first_fault column [] (map fields_of rows)
    ≡ first_fault column (take i (map fields_of rows)) (drop i (map fields_of rows))
    → entries_under (Some column) (map fields_of rows) ≡ Ok sails
all_sound column rows i sails end so_far all =
    let size = length-map rows fields_of in
    let none : first_fault column [] (map fields_of rows) ≡ None = all
    ∙ ap (first_fault column (take i (map fields_of rows)))
    (drop_all i (map fields_of rows) (omega (arith, size))) in
    ap (λ (o : Option EntriesFault). unless_faulty o (sails_in column (map fields_of rows))) none
    ∙ ap Ok (sym (so_far ∙ ap (sails_in column)
    (take_all i (map fields_of rows) (omega (arith, size)))))

-- ---- the column of sails

-- the first heading
pub heading_at : (fields : Record) (i : ℕ) → i < length fields
    → ((k : ℕ) (d : List ℕ) → k < i → is_sail_heading (get_or fields k d) ≡ false)
    → is_sail_heading (get_or fields i []) ≡ true → Some i ≡ position is_sail_heading fields
heading_at fields i below before here =
    let at = position_or_len_is is_sail_heading fields i [] (omega arith) (λ k lt. before k [] lt)
    (λ _. here) in
    sym ((λ j. cond (ltb (at j) (length fields)) (Some (at j)) None)
    ∙ ap (λ (b : Bool). cond b (Some i) None) (lt-ltb i (length fields) below))

-- no heading
pub no_heading : (fields : Record) (i : ℕ) → length fields ≤ i
    → ((k : ℕ) (d : List ℕ) → k < i → is_sail_heading (get_or fields k d) ≡ false)
    → None ≡ position is_sail_heading fields
no_heading fields i end before =
    let at = position_or_len_is is_sail_heading fields (length fields) [] (omega arith)
    (λ k lt. before k [] (omega arith)) (λ lt. absurd (omega arith)) in
    let past : ltb (position_or_len is_sail_heading fields) (length fields)
    ≡ false = grind (arith, nat_tests, at) in
    sym (ap (λ (b : Bool). cond b (Some (position_or_len is_sail_heading fields)) None) past)

below_or_at : (k i : ℕ) → k < i + 1 → (k < i) ⊎ (k ≡ i)
below_or_at k i h = grind arith

-- a field, seen through its reference
seen_at : (items : List (Bor (List ℕ))) (fields : Record) (i : ℕ) (seen : Bor (List ℕ))
    (d : List ℕ) → i < length items → map (λ field. field.now) items ≡ fields
    → get_or fields i d ≡ (get_or items i seen).now
seen_at items fields i seen d below same =
    ap (λ (fs : Record). get_or fs i d) (sym same)
    ∙ get_or-map (λ field. field.now) items i seen d below

pub heading_seen : (items : List (Bor (List ℕ))) (fields : Record) (i : ℕ) (seen : Bor (List ℕ))
    → i < length items → map (λ field. field.now) items ≡ fields
    → ((k : ℕ) (d : List ℕ) → k < i → is_sail_heading (get_or fields k d) ≡ false)
    → is_sail_heading (get_or items i seen).now ≡ true → Some i ≡ position is_sail_heading fields
heading_seen items fields i seen below same before here =
    heading_at fields i (omega (
      arith,
      length-map items (λ (field : Bor (List ℕ)). field.now),
      ap length same,
    )) before
    (ap is_sail_heading (seen_at items fields i seen [] below same) ∙ here)

pub other_seen : (items : List (Bor (List ℕ))) (fields : Record) (i : ℕ) (seen : Bor (List ℕ))
    → i < length items → map (λ field. field.now) items ≡ fields
    → ((k : ℕ) (d : List ℕ) → k < i → is_sail_heading (get_or fields k d) ≡ false)
    → is_sail_heading (get_or items i seen).now ≡ false → (k : ℕ) (d : List ℕ) → k < i + 1
    → is_sail_heading (get_or fields k d) ≡ false
other_seen items fields i seen below same before here k d within = by (below_or_at k i within)
  where
    by : (k < i) ⊎ (k ≡ i) → is_sail_heading (get_or fields k d) ≡ false
    by (inl lower) = before k d lower
    by (inr equal) = ap (λ (n : ℕ). is_sail_heading (get_or fields n d)) equal
        ∙ ap is_sail_heading (seen_at items fields i seen d below same) ∙ here

pub no_heading_seen : (items : List (Bor (List ℕ))) (fields : Record) (i : ℕ) → length items ≤ i
    → map (λ field. field.now) items ≡ fields →
    ((k : ℕ) (d : List ℕ) → k < i → is_sail_heading (get_or fields k d) ≡ false)
    → None ≡ position is_sail_heading fields
no_heading_seen items fields i end same before =
    no_heading fields i (omega (
      arith,
      length-map items (λ (field : Bor (List ℕ)). field.now),
      ap length same,
    )) before
