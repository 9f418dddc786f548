-- The faults of an entry list say what its reader and a replay of the start say.
use Rattle.std.proofs.Common.{◌≡◌, ℕ, ◌+◌, Bool, true, false, cond, List, [], ◌∷◌, ◌++◌, length, map}
use Rattle.std.proofs.Common.{Option, Some, None, Result, Ok, Err, refl, ap, sym, subst, ◌∙◌, arith}
use Rattle.std.proofs.Common.{nat_le, ◌↔◌, length-append, append_assoc, slice_get, not}
use Rattle.std.proofs.Common.{append-nil}
use Rattle.std.specs.List.{cons_option, filter_map, list_any, position}
use Rattle.std.specs.Option.{option_and_then, option_map, option_or}
use Rattle.csv.specs.Reading.{default_config, records, strip_bom}
use Rattle.regatta_terms.specs.Entries.{EntryParts}
use Rattle.regatta_terms.specs.Rules.{RulesParts}
use Rattle.regatta_terms.specs.Sails.{sail_of}
use Rattle.regatta_terms.specs.declared.command.Command.TheVariants.{Enter}
use Rattle.regatta_terms.specs.declared.command.Role.TheVariants.{Scorer}
use Rattle.regatta_terms.specs.declared.limits.TheConstants.{MAX_BOATS}
use Rattle.regatta_terms.specs.declared.reply.Refusal.{Refusal}
use Rattle.regatta_terms.specs.declared.sail.Sail.{Sail}
use Rattle.regatta_scores.specs.Journal.{Journal, same_sail}
use Rattle.regatta_board.specs.Refusals.{is_lawful, limits, refusal}
use Rattle.regatta_board.specs.Runs.{journal_by, sent}
use Rattle.regatta_board.proofs.Lawful.{free_of_refusals, lawful_more, none_before, none_refused}
use Rattle.regatta_board.proofs.Lawful.{refused_append}
use Rattle.regatta_tables.specs.EntryLists.{Field, Record, entries_of, entries_under}
use Rattle.regatta_tables.specs.EntryLists.{fault_in as fault_of_record, fault_of, fault_of_field}
use Rattle.regatta_tables.specs.EntryLists.{fault_of_sail, first_fault}
use Rattle.regatta_tables.specs.EntryLists.{is_blank, is_sail_heading, sail_in, sails_in}
use Rattle.regatta_tables.specs.EntryLists.{unless_faulty, without_spaces}
use Rattle.regatta_tables.specs.ListedRows.{listed_field, listed_in, listed_of, listed_sail}
use Rattle.regatta_tables.specs.ListedRows.{listed_under}
use Rattle.regatta_tables.specs.declared.entries.EntriesFault.{EntriesFault}
use Rattle.regatta_tables.specs.declared.entries.EntriesFault.TheVariants as reader
use Rattle.regatta_tables.specs.declared.listed.Listed.{Listed}
use Rattle.regatta_tables.specs.declared.listed.Listed.TheVariants.{Blank, NoField, NoSail, Boat}
use Rattle.regatta_tables.proofs.ListFacts.{sails-append}
use Rattle.regatta_check.specs.Agreement.{fault_in}
use Rattle.regatta_check.specs.EntryRows.{Listing, boat_refusal, boats_in, entering_kind, faults_under}
use Rattle.regatta_check.specs.EntryRows.{is_skipped}
use Rattle.regatta_check.specs.EntryRows.{journal_listed, list_faults, listed_kind, listing_by}
use Rattle.regatta_check.specs.EntryRows.{row_fault_at, row_faults}
use Rattle.regatta_check.specs.ListAgreement.{AgreesOnList, first_unlisted, started, unlisted}
use Rattle.regatta_check.specs.declared.parts.RowFault.{RowFault}
use Rattle.regatta_check.specs.declared.parts.RowKind.{RowKind}
use Rattle.regatta_check.specs.declared.parts.RowKind.TheVariants.{BadRow, BadSail, Twice}
use Rattle.regatta_check.specs.declared.parts.RowKind.TheVariants.{TooMany, Refused}

-- ---- one row

-- what the reader has against a row, by what the list has against it
unlisted_if : ℕ → Option RowKind → Option EntriesFault
unlisted_if row None = None
unlisted_if row (Some kind) = unlisted row kind

-- the reader's fault of a record is that of what it names
fault_listed : (column row : ℕ) (sails : List Sail) (fields : Record)
    → fault_of_record column row sails fields
    ≡ unlisted_if row (listed_kind sails (listed_in column fields))
unfolding unlisted_if
fault_listed column row sails fields = by (is_blank fields) (slice_get fields column)
  where
    crowded : (twice many : Bool)
        → cond twice (Some (reader.Twice row)) (cond many (Some (reader.TooMany row)) None)
        ≡ unlisted_if row (cond twice (Some Twice) (cond many (Some TooMany) None))
    crowded true many = refl
    crowded false true = refl
    crowded false false = refl

    named : (sail : Option Sail)
        → fault_of_sail row sails sail ≡ unlisted_if row (listed_kind sails (listed_sail sail))
    named None = refl
    named (Some sail) =
        crowded (list_any (λ other. same_sail other sail) sails) (nat_le MAX_BOATS (length sails))

    by : (blank : Bool) (field : Option Field) → cond blank None (fault_of_field row sails field)
        ≡ unlisted_if row (listed_kind sails (cond blank Blank (listed_field field)))
    by true field = refl
    by false None = refl
    by false (Some field) = named (sail_of (without_spaces field))

-- the sail of a record is the boat that it names
boats_listed : (column : ℕ) (fields : Record)
    → sails_in column (fields ∷ []) ≡ boats_in (listed_in column fields)
boats_listed column fields = by (is_blank fields)
  where
    named : (sail : Option Sail) → cons_option sail [] ≡ boats_in (listed_sail sail)
    named None = refl
    named (Some sail) = refl

    read : (field : Option Field)
        → cons_option (option_and_then (λ field. sail_of (without_spaces field)) field) []
        ≡ boats_in (listed_field field)
    read None = refl
    read (Some field) = named (sail_of (without_spaces field))

    by : (blank : Bool) → filter_map (sail_in column) (cond (not blank) (fields ∷ []) [])
        ≡ boats_in (cond blank Blank (listed_field (slice_get fields column)))
    by true = refl
    by false = read (slice_get fields column)

-- what a list has against a row is a fault to its reader
known : (row : ℕ) (sails : List Sail) (listed : Listed) (kind : RowKind)
    → listed_kind sails listed ≡ Some kind → (fault : EntriesFault) × (unlisted row kind ≡ Some fault)
known row sails Blank kind is = absurd cc
known row sails NoField kind is =
    let same : kind ≡ BadRow = cc in (reader.BadRow row, ap (unlisted row) same)
known row sails NoSail kind is =
    let same : kind ≡ BadSail = cc in (reader.BadSail row, ap (unlisted row) same)
known row sails (Boat sail) kind is =
    by (list_any (λ other. same_sail other sail) sails) (nat_le MAX_BOATS (length sails)) is
  where
    by : (twice many : Bool) → cond twice (Some Twice) (cond many (Some TooMany) None) ≡ Some kind
        → (fault : EntriesFault) × (unlisted row kind ≡ Some fault)
    by true many is = let same : kind ≡ Twice = cc in (reader.Twice row, ap (unlisted row) same)
    by false true is = let same : kind ≡ TooMany = cc in (reader.TooMany row, ap (unlisted row) same)
    by false false is = absurd cc

module _ (rules : RulesParts) (goes_on : Bool) (column : ℕ) where
  -- a refused boat is no fault to the reader
  passed_over : (row : ℕ) (journal : Journal) (listed : Listed) (rest : List RowFault)
      → first_unlisted (row_fault_at row (entering_kind rules goes_on journal listed) ++ rest)
      ≡ first_unlisted rest
  passed_over row journal Blank rest = refl
  passed_over row journal NoField rest = refl
  passed_over row journal NoSail rest = refl
  passed_over row journal (Boat sail) rest = by (boat_refusal rules goes_on journal sail)
    where
      by : (due : Option Refusal)
          → first_unlisted (row_fault_at row (option_map Refused due) ++ rest) ≡ first_unlisted rest
      by None = refl
      by (Some why) = refl

  -- the boats of a row more
  boats_more : (before : List Record) (fields : Record) (sails : List Sail)
      → sails ≡ sails_in column before
      → sails ++ boats_in (listed_in column fields) ≡ sails_in column (before ++ fields ∷ [])
  boats_more before fields sails is =
      (λ i. is i ++ sym (boats_listed column fields) i)
      ∙ sym (sails-append column before (fields ∷ []))

  -- the first record that the reader can't take is that of the first fault that isn't a refusal
  first_is : (rs before : List Record) (so_far : Listing) (row : ℕ)
      → so_far.sails ≡ sails_in column before → row ≡ length before + 2
      → first_fault column before rs
      ≡ first_unlisted (row_faults rules goes_on row so_far (map (listed_in column) rs))
  unfolding row_faults unlisted_if
  first_is [] before so_far row is counts = refl
  first_is (fields ∷ rs) before so_far row is counts =
      (λ i. option_or (fault_of_record column (sym counts i) (sym is i) fields) rest)
      ∙ ap (λ (o : Option EntriesFault). option_or o rest)
      (fault_listed column row so_far.sails fields)
      ∙ by (listed_kind so_far.sails listed) refl
      (first_is rs (before ++ fields ∷ []) (listing_by rules goes_on None so_far listed) (row + 1)
      (boats_more before fields so_far.sails is)
      (omega (arith, counts, length-append before (fields ∷ []))))
    where
      listed : Listed
      listed = listed_in column fields

      rest : Option EntriesFault
      rest = first_fault column (before ++ fields ∷ []) rs

      rows : List Listed
      rows = map (listed_in column) rs

      by : (due : Option RowKind) → listed_kind so_far.sails listed ≡ due
          → rest ≡ first_unlisted (row_faults rules goes_on (row + 1)
          (listing_by rules goes_on None so_far listed) rows)
          → option_or (unlisted_if row due) rest
          ≡ first_unlisted (row_fault_at row
          (option_or due (entering_kind rules goes_on so_far.journal listed))
          ++ row_faults rules goes_on (row + 1) (listing_by rules goes_on due so_far listed) rows)
      by None due later =
          later ∙ sym (passed_over row so_far.journal listed (row_faults rules goes_on (row + 1)
          (listing_by rules goes_on None so_far listed) rows))
      by (Some kind) due later =
          let fault = known row so_far.sails listed kind due in
          ap (λ (o : Option EntriesFault). option_or o rest) fault.1
          ∙ sym (ap (λ (o : Option EntriesFault). option_or o (first_unlisted (row_faults rules goes_on
          (row + 1) so_far rows))) fault.1)

-- ---- the start

-- a start begins with its journal
begins : (goes_on : Bool) (sails : List Sail) (journal : Journal)
    → (more : Journal) × (started goes_on journal sails ≡ journal ++ more)
begins goes_on [] journal = ([], sym (append-nil journal))
begins goes_on (sail ∷ sails) journal =
    by (is_skipped goes_on journal sail) (begins goes_on sails journal)
    (begins goes_on sails (journal ++ sent journal Scorer (Enter sail) ∷ []))
  where
    by : (skips : Bool) → (more : Journal) × (started goes_on journal sails ≡ journal ++ more)
        → (more : Journal) × (started goes_on (journal ++ sent journal Scorer (Enter sail) ∷ []) sails
        ≡ (journal ++ sent journal Scorer (Enter sail) ∷ []) ++ more)
        → (more : Journal) × (cond skips (started goes_on journal sails)
        (started goes_on (journal ++ sent journal Scorer (Enter sail) ∷ []) sails)
        ≡ journal ++ more)
    by true stays goes = stays
    by false stays goes = (
      sent journal Scorer (Enter sail) ∷ goes.0,
      goes.1 ∙ append_assoc journal (sent journal Scorer (Enter sail) ∷ []) goes.0,
    )

-- no lawful journal goes on from a refused entry
refused_start : (rules : RulesParts) (journal more : Journal) (entry : EntryParts) (why : Refusal)
    → is_lawful limits rules journal ≡ true → refusal limits rules journal entry ≡ Some why
    → is_lawful limits rules ((journal ++ entry ∷ []) ++ more) ≡ true → ⊥
refused_start rules journal more entry why lawful is all =
    let first = none_before limits rules [] (journal ++ entry ∷ []) more
    (free_of_refusals rules ((journal ++ entry ∷ []) ++ more) all) in
    let here = sym (refused_append limits rules [] journal (entry ∷ [])
    (free_of_refusals rules journal lawful)) ∙ first in
    let none = (none_refused (refusal limits rules journal entry) (length journal + 1) None here).0 in
    let never : ◌≡◌ {A = Option Refusal} None (Some why) = sym none ∙ is in
    absurd cc

module _ (rules : RulesParts) (goes_on : Bool) (column : ℕ) where
  -- what one row does to the start
  row_starts : (row : ℕ) (journal : Journal) (listed : Listed) (sails rest : List Sail)
      (rows : List Listed) → is_lawful limits rules journal ≡ true
      → ((j : Journal) → is_lawful limits rules j ≡ true
      → (row_faults rules goes_on (row + 1) (record { sails = sails; journal = j }) rows ≡ [])
      ↔ (is_lawful limits rules (started goes_on j rest) ≡ true))
      → (row_fault_at row (entering_kind rules goes_on journal listed)
      ++ row_faults rules goes_on (row + 1)
      (record { sails = sails; journal = journal_listed rules goes_on journal listed }) rows ≡ [])
      ↔ (is_lawful limits rules (started goes_on journal (boats_in listed ++ rest)) ≡ true)
  row_starts row journal Blank sails rest rows lawful later = later journal lawful
  row_starts row journal NoField sails rest rows lawful later = later journal lawful
  row_starts row journal NoSail sails rest rows lawful later = later journal lawful
  row_starts row journal (Boat sail) sails rest rows lawful later =
      by (is_skipped goes_on journal sail) (refusal limits rules journal entry) refl
    where
      entry : EntryParts
      entry = sent journal Scorer (Enter sail)

      by : (skips : Bool) (due : Option Refusal) → refusal limits rules journal entry ≡ due
          → (row_fault_at row (option_map Refused (cond skips None due))
          ++ row_faults rules goes_on (row + 1)
          (record { sails = sails; journal = cond skips journal (journal_by journal entry due) }) rows
          ≡ []) ↔ (is_lawful limits rules (cond skips (started goes_on journal rest)
          (started goes_on (journal ++ entry ∷ []) rest)) ≡ true)
      by true due is = later journal lawful
      by false None is = later (journal ++ entry ∷ []) (lawful_more rules journal entry lawful is)
      by false (Some why) is = (
        λ none. absurd cc,
        λ all. absurd (let start = begins goes_on rest (journal ++ entry ∷ []) in
            refused_start rules journal start.0 entry why lawful is
            (subst (λ (j : Journal). is_lawful limits rules j ≡ true) start.1 all)),
      )

  -- nothing is wrong with rows that the reader takes exactly if a replay takes the start
  starts : (rs before : List Record) (so_far : Listing) (row : ℕ)
      → so_far.sails ≡ sails_in column before → row ≡ length before + 2
      → is_lawful limits rules so_far.journal ≡ true → first_fault column before rs ≡ None
      → (row_faults rules goes_on row so_far (map (listed_in column) rs) ≡ [])
      ↔ (is_lawful limits rules (started goes_on so_far.journal (sails_in column rs)) ≡ true)
  unfolding row_faults unlisted_if
  starts [] before so_far row is counts lawful none = (λ empty. lawful, λ all. refl)
  starts (fields ∷ rs) before so_far row is counts lawful none =
      by (listed_kind so_far.sails listed) refl
      (sym (ap (λ (o : Option EntriesFault). option_or o rest) here) ∙ none)
      (λ free j allowed. starts rs (before ++ fields ∷ [])
      (record { sails = so_far.sails ++ boats_in listed; journal = j }) (row + 1)
      (boats_more rules goes_on column before fields so_far.sails is)
      (omega (arith, counts, length-append before (fields ∷ []))) allowed free)
    where
      listed : Listed
      listed = listed_in column fields

      rest : Option EntriesFault
      rest = first_fault column (before ++ fields ∷ []) rs

      rows : List Listed
      rows = map (listed_in column) rs

      here : fault_of column before fields ≡ unlisted_if row (listed_kind so_far.sails listed)
      here = (λ i. fault_of_record column (sym counts i) (sym is i) fields)
          ∙ fault_listed column row so_far.sails fields

      named : boats_in listed ++ sails_in column rs ≡ sails_in column (fields ∷ rs)
      named = ap (λ (boats : List Sail). boats ++ sails_in column rs)
          (sym (boats_listed column fields)) ∙ sym (sails-append column (fields ∷ []) rs)

      by : (due : Option RowKind) → listed_kind so_far.sails listed ≡ due
          → option_or (unlisted_if row due) rest ≡ None
          → (rest ≡ None → (j : Journal) → is_lawful limits rules j ≡ true
          → (row_faults rules goes_on (row + 1)
          (record { sails = so_far.sails ++ boats_in listed; journal = j }) rows ≡ [])
          ↔ (is_lawful limits rules (started goes_on j (sails_in column rs)) ≡ true))
          → (row_fault_at row (option_or due (entering_kind rules goes_on so_far.journal listed))
          ++ row_faults rules goes_on (row + 1) (listing_by rules goes_on due so_far listed) rows ≡ [])
          ↔ (is_lawful limits rules (started goes_on so_far.journal (sails_in column (fields ∷ rs)))
          ≡ true)
      by None due free later =
          subst (λ (boats : List Sail). (row_fault_at row
          (entering_kind rules goes_on so_far.journal listed)
          ++ row_faults rules goes_on (row + 1) (listing_by rules goes_on None so_far listed) rows ≡ [])
          ↔ (is_lawful limits rules (started goes_on so_far.journal boats) ≡ true)) named
          (row_starts row so_far.journal listed (so_far.sails ++ boats_in listed)
          (sails_in column rs) rows lawful (later free))
      by (Some kind) due free later =
          let fault = known row so_far.sails listed kind due in
          let never : ◌≡◌ {A = Option EntriesFault} (Some fault.0) None =
          sym (ap (λ (o : Option EntriesFault). option_or o rest) fault.1) ∙ free in
          absurd cc

-- ---- a list

fault_unless : (due : Option EntriesFault) (sails : List Sail) → fault_in (unless_faulty due sails) ≡ due
fault_unless None sails = refl
fault_unless (Some fault) sails = refl

read_parts : (due : Option EntriesFault) (sails read : List Sail) → unless_faulty due sails ≡ Ok read
    → (due ≡ None) × (read ≡ sails)
read_parts None sails read is = let same : read ≡ sails = cc in (refl, same)
read_parts (Some fault) sails read is = absurd cc

-- what the reader and a replay of the start say of the records of a list
record AgreesOn (rules : RulesParts) (goes_on : Bool) (journal : Journal)
    (read : Result (List Sail) EntriesFault) (rows : List RowFault) : Type 0 where
  reading : fault_in read ≡ first_unlisted rows
  nothing : (rows ≡ []) ↔ ((sails : List Sail) × (read ≡ Ok sails)
      × (is_lawful limits rules (started goes_on journal sails) ≡ true))

no_column : (rules : RulesParts) (goes_on : Bool) (journal : Journal)
    → AgreesOn rules goes_on journal (Err reader.NoColumn) (faults_under rules goes_on journal None)
no_column rules goes_on journal = record {
  reading = refl;
  nothing = (λ none. absurd cc, λ taken. absurd (let is = taken.1 in cc));
}

under : (rules : RulesParts) (goes_on : Bool) (journal : Journal) (column : Option ℕ)
    (rs : List Record) → is_lawful limits rules journal ≡ true
    → AgreesOn rules goes_on journal (entries_under column rs)
    (faults_under rules goes_on journal (listed_under column rs))
under rules goes_on journal None rs lawful = no_column rules goes_on journal
under rules goes_on journal (Some column) rs lawful =
    let start : Listing = record { sails = []; journal = journal } in
    let first = first_is rules goes_on column rs [] start 2 refl refl in
    record {
      reading = fault_unless (first_fault column [] rs) (sails_in column rs) ∙ first;
      nothing = (
        λ none. let free = first ∙ ap first_unlisted none in (
          sails_in column rs,
          ap (λ (o : Option EntriesFault). unless_faulty o (sails_in column rs)) free,
          (starts rules goes_on column rs [] start 2 refl refl lawful free).0 none,
        ),
        λ taken. let parts = read_parts (first_fault column [] rs) (sails_in column rs) taken.0 taken.1 in
            (starts rules goes_on column rs [] start 2 refl refl lawful parts.0).1
            (subst (λ (s : List Sail). is_lawful limits rules (started goes_on journal s) ≡ true)
            parts.1 taken.2),
      );
    }

-- the faults of a list say what the program says of it
pub agrees_on_list : (rules : RulesParts) (goes_on : Bool) (journal : Journal) (text : List ℕ)
    → is_lawful limits rules journal ≡ true
    → AgreesOnList rules goes_on journal text (list_faults rules goes_on journal text)
unfolding list_faults
agrees_on_list rules goes_on journal text lawful =
    let both = by (records default_config (strip_bom text)) in
    record { reading = both.reading; nothing = both.nothing }
  where
    by : (all : List Record) → AgreesOn rules goes_on journal (entries_of all)
        (faults_under rules goes_on journal (listed_of all))
    by [] = no_column rules goes_on journal
    by (header ∷ rs) = under rules goes_on journal (position is_sail_heading header) rs lawful
