-- A check says that nothing is wrong exactly if a series starts with what was checked.
use Rattle.std.proofs.Common.{◌≡◌, ◌↔◌, Bool, true, false, ℕ, List, [], ◌∷◌, Option, Some, None}
use Rattle.std.proofs.Common.{◌⊎◌, ◌≤◌, Result, Ok, Err, IfErr, IfSome, refl, sym, ap, subst, ◌∙◌, inl, inr}
use Rattle.std.proofs.Common.{length, nat_le, arith}
use Rattle.std.specs.Prelude.{if◌then◌else◌}
use Rattle.std.specs.Io.KnownBytes.{Appends, Keeps}
use Rattle.std.specs.List.{IsDistinct}
use Rattle.std.proofs.lemmas.Bool.{and_from, and_parts}
use Rattle.regatta_terms.specs.Rules.{RulesParts}
use Rattle.regatta_terms.specs.declared.sail.Sail.{Sail}
use Rattle.regatta_scores.specs.Journal.{Journal, same_sail}
use Rattle.regatta_board.specs.Refusals.{is_lawful, limits}
use Rattle.regatta_board.proofs.Beginnings.{beginnings_are_lawful}
use Rattle.regatta_watch.proofs.Prefixes.{nil_prefix}
use Rattle.regatta_keep.specs.WholeLines.{whole_part}
use Rattle.regatta_check.specs.Agreement.{Agrees, AgreesKept}
use Rattle.regatta_check.specs.Checks.{are_sound, are_sound_rows, check_of_journal, check_of_kept}
use Rattle.regatta_check.specs.Checks.{is_sound, is_sound_text, may_be_cut}
use Rattle.regatta_check.specs.Documents.{document_text}
use Rattle.regatta_check.specs.EntryRows.{list_faults_if}
use Rattle.regatta_check.specs.Faults.{journal_accepted}
use Rattle.regatta_check.specs.ListAgreement.{AgreesOnList, started}
use Rattle.regatta_check.proofs.ListedOnce.{listed_once}
use Rattle.regatta_check.specs.declared.parts.Check.{Check}
use Rattle.regatta_check.specs.declared.parts.Fault.{Fault}
use Rattle.regatta_check.specs.declared.parts.RowFault.{RowFault}
use Rattle.regatta_office.specs.Asked.{CheckAsked}
use Rattle.regatta_office.specs.CheckedStarts.{Accepts, AreSailsOf, ChecksText, IsCheckOf, PrintsCheck}
use Rattle.regatta_office.specs.Complaints.{status_of}
use Rattle.regatta_office.specs.KeptStarts.{longer_of, missing_from}
use Rattle.regatta_office.specs.Runs.{FaultyRunOf}
use Rattle.regatta_office.specs.Starts.{start_of}
use Rattle.regatta_office.proofs.KeptStarting.{goes_on, start_begins}
use Rattle.regatta_office.proofs.Listing.{started_all, started_missing}
use Rattle.regatta_office.proofs.Printing.{keeps_same}
use Rattle.regatta_office.specs.declared.complaint.Complaint.{Complaint}
use Rattle.regatta_office.specs.declared.options.Asked.{Asked}

-- ---- nothing is wrong

no_faults : (faults : List Fault) → are_sound faults ≡ true → faults ≡ []
no_faults [] sound = refl
no_faults (fault ∷ faults) sound = absurd cc

no_rows : (rows : List RowFault) → are_sound_rows rows ≡ true → rows ≡ []
no_rows [] sound = refl
no_rows (fault ∷ rows) sound = absurd cc

-- ---- the list

-- the boats of a list, after a journal that is accepted
abbrev Lists : RulesParts → Bool → Journal → Option (List ℕ) → Type 0
Lists rules is_kept journal list = (sails : List Sail) × AreSailsOf list sails
    × (is_lawful limits rules (started is_kept journal sails) ≡ true)

lists : (rules : RulesParts) (is_kept : Bool) (journal : Journal) (list : Option (List ℕ))
    (rows : List RowFault) → rows ≡ list_faults_if rules is_kept journal list
    → IfSome list (λ boats. AgreesOnList rules is_kept journal boats rows)
    → is_lawful limits rules journal ≡ true → (rows ≡ []) ↔ Lists rules is_kept journal list
lists rules is_kept journal None rows are agrees lawful = (λ none. ([], refl, lawful), λ all. are)
lists rules is_kept journal (Some boats) rows are agrees lawful = agrees.nothing

-- no boat is twice among those of a list
once : (list : Option (List ℕ)) (sails : List Sail) → AreSailsOf list sails
    → IsDistinct same_sail sails
unfolding IsDistinct
once None sails are = subst (IsDistinct same_sail) (sym are) tt
once (Some text) sails are = listed_once text sails are

lawful_as : (rules : RulesParts) (one other : Journal) → one ≡ other
    → is_lawful limits rules one ≡ true → is_lawful limits rules other ≡ true
lawful_as rules one other same lawful =
    subst (λ (j : Journal). is_lawful limits rules j ≡ true) same lawful

-- ---- a journal

module _ (rules : RulesParts) (text : List ℕ) (list : Option (List ℕ)) (check : Check)
    (is : check ≡ check_of_journal rules text list) (agrees : Agrees rules text check.faults)
    (on_list : IfSome list (λ boats. AgreesOnList rules false (journal_accepted rules text) boats check.rows)) where
  rows_are : check.rows ≡ list_faults_if rules false (journal_accepted rules text) list
  rows_are = ap (λ (c : Check). c.rows) is

  journal_starts : is_sound check ≡ true → Accepts false rules text list
  journal_starts sound =
      let parts = and_parts (is_sound_text check) (are_sound_rows check.rows) sound in
      let lines = and_parts (are_sound check.faults) (may_be_cut check.torn) parts.0 in
      let reads = agrees.nothing.0 (no_faults check.faults lines.0) in
      let same = agrees.accepted reads.0 reads.1 reads.2 in
      let listed = (lists rules false (journal_accepted rules text) list check.rows rows_are on_list
      (lawful_as rules reads.0 (journal_accepted rules text) (sym same) reads.2)).0
      (no_rows check.rows parts.1) in (
        start_of reads.0 listed.0,
        record {
          journal = reads.0;
          reads = reads.1;
          sails = listed.0;
          lists = listed.1;
          both = refl;
        },
        lawful_as rules (started false (journal_accepted rules text) listed.0)
            (start_of reads.0 listed.0)
            (ap (λ (j : Journal). started false j listed.0) same ∙ started_all reads.0 listed.0)
            listed.2,
      )

  journal_sound : Accepts false rules text list → is_sound check ≡ true
  journal_sound accepted =
      let starts = accepted.1 in
      let start = lawful_as rules accepted.0 (start_of starts.journal starts.sails) starts.both accepted.2 in
      let lawful = beginnings_are_lawful limits rules starts.journal
      (start_of starts.journal starts.sails) (start_begins starts.journal starts.sails) start in
      let same = agrees.accepted starts.journal starts.reads lawful in
      let none = agrees.nothing.1 (starts.journal, starts.reads, lawful) in
      let empty = (lists rules false (journal_accepted rules text) list check.rows rows_are on_list
      (lawful_as rules starts.journal (journal_accepted rules text) (sym same) lawful)).1 (
        starts.sails,
        starts.lists,
        lawful_as rules (start_of starts.journal starts.sails)
            (started false (journal_accepted rules text) starts.sails)
            (sym (ap (λ (j : Journal). started false j starts.sails) same
            ∙ started_all starts.journal starts.sails)) start,
      ) in
      and_from (is_sound_text check) (are_sound_rows check.rows)
      (and_from (are_sound check.faults) (may_be_cut check.torn) (ap are_sound none)
      (ap (λ (c : Check). may_be_cut c.torn) is))
      (ap are_sound_rows empty)

  pub journal_accepts : (is_sound check ≡ true) ↔ Accepts false rules text list
  journal_accepts = (journal_starts, journal_sound)

-- ---- a kept file

-- a kept file goes on from itself
longer_kept : (kept : Journal) → longer_of kept [] ≡ kept
longer_kept kept = by (nat_le 0 (length kept)) refl
  where
    by : (b : Bool) → nat_le 0 (length kept) ≡ b → (if b then kept else []) ≡ kept
    by true e = refl
    by false e = let least : 0 ≤ length kept = omega arith in absurd (grind (arith, least, e))

module _ (rules : RulesParts) (file : List ℕ) (list : Option (List ℕ)) (check : Check)
    (is : check ≡ check_of_kept rules file list) (agrees : AgreesKept rules file check)
    (on_list : IfSome list (λ boats. AgreesOnList rules true (journal_accepted rules (whole_part file)) boats check.rows))
  where
    kept_rows_are : check.rows ≡ list_faults_if rules true (journal_accepted rules (whole_part file)) list
    kept_rows_are = ap (λ (c : Check). c.rows) is

    -- the start of the check's journal is that which a serving goes on from
    kept_start : (kept : Journal) (sails : List Sail) → journal_accepted rules (whole_part file) ≡ kept
        → AreSailsOf list sails
        → started true (journal_accepted rules (whole_part file)) sails
        ≡ start_of kept (missing_from kept sails)
    kept_start kept sails same are =
        ap (λ (j : Journal). started true j sails) same
        ∙ started_missing kept sails (once list sails are)

    file_starts : is_sound check ≡ true → Accepts true rules file list
    file_starts sound =
        let parts = and_parts (is_sound_text check) (are_sound_rows check.rows) sound in
        let reads = agrees.nothing.0 parts.0 in
        let same = agrees.whole.accepted reads.0 reads.2 reads.3 in
        let listed = (lists rules true (journal_accepted rules (whole_part file)) list check.rows
        kept_rows_are on_list
        (lawful_as rules reads.0 (journal_accepted rules (whole_part file)) (sym same) reads.3)).0
        (no_rows check.rows parts.1) in (
          start_of reads.0 (missing_from reads.0 listed.0),
          record {
            opens = reads.1;
            kept = reads.0;
            reads = reads.2;
            sails = listed.0;
            lists = listed.1;
            goes_on = record {
              one = inr (nil_prefix reads.0);
              all = sym (ap (λ (j : Journal). start_of j (missing_from j listed.0))
                  (longer_kept reads.0));
            };
          },
          lawful_as rules (started true (journal_accepted rules (whole_part file)) listed.0)
              (start_of reads.0 (missing_from reads.0 listed.0))
              (kept_start reads.0 listed.0 same listed.1) listed.2,
        )

    file_sound : Accepts true rules file list → is_sound check ≡ true
    file_sound accepted =
        let starts = accepted.1 in
        let lawful = beginnings_are_lawful limits rules starts.kept accepted.0
        (goes_on starts.kept [] starts.sails accepted.0 starts.goes_on) accepted.2 in
        let same = agrees.whole.accepted starts.kept starts.reads lawful in
        let text = agrees.nothing.1 (starts.kept, starts.opens, starts.reads, lawful) in
        let empty = (lists rules true (journal_accepted rules (whole_part file)) list check.rows
        kept_rows_are on_list
        (lawful_as rules starts.kept (journal_accepted rules (whole_part file)) (sym same) lawful)).1 (
          starts.sails,
          starts.lists,
          lawful_as rules accepted.0 (started true (journal_accepted rules (whole_part file)) starts.sails)
              (starts.goes_on.all
              ∙ ap (λ (j : Journal). start_of j (missing_from j starts.sails))
              (longer_kept starts.kept)
              ∙ sym (kept_start starts.kept starts.sails same starts.lists))
              accepted.2,
        ) in
        and_from (is_sound_text check) (are_sound_rows check.rows) text (ap are_sound_rows empty)

    pub kept_accepts : (is_sound check ≡ true) ↔ Accepts true rules file list
    kept_accepts = (file_starts, file_sound)

-- ---- what is asked for, and what is printed

-- of the text that was read, by the option that was given
pub of_asked : (entries : Option (List ℕ)) (rules : RulesParts) (check : Check) (is_kept given : Bool)
    (passed text : List ℕ) → is_kept ≡ given → passed ≡ text
    → ChecksText entries is_kept rules passed check → ChecksText entries given rules text check
of_asked entries rules check is_kept given passed text kept same checks =
    subst (λ (b : Bool). ChecksText entries b rules text check) kept
    (subst (λ (t : List ℕ). ChecksText entries is_kept rules t check) same checks)

-- nothing was written if nothing was checked
pub unchanged : {A : Type 0} (r : Result A Complaint) (old : Option (List ℕ)) (P : Type 0)
    → IfErr r (λ why. status_of why ≡ 1 → Keeps old old ⊎ P)
unchanged (Ok done) old P = tt
unchanged (Err why) old P = λ one. inl (keeps_same old)

-- with status 1 a document was written that says that something is wrong
pub judged : {A : Type 0} (r : Result A Complaint) (asked : CheckAsked) (check : Check)
    (old new : Option (List ℕ)) → IsCheckOf asked check
    → IfErr r (λ why. status_of why ≡ 1 → (is_sound check ≡ false)
    × Appends old new (document_text check))
    → IfErr r (λ why. status_of why ≡ 1 → Keeps old new ⊎ PrintsCheck false asked old new)
judged (Ok done) asked check old new is said = tt
judged (Err why) asked check old new is said = λ one.
    let found = said one in
    inr (record { check = check; is = is; says = found.0; wrote = found.1 })

-- a run that may write what it likes with status 1
pub faulty_run : {A : Type 0} (r : Result A Complaint) (asked : Asked) (old new : Option (List ℕ))
    → FaultyRunOf asked old new → IfErr r (λ why. status_of why ≡ 1 → FaultyRunOf asked old new)
faulty_run (Ok done) asked old new faulty = tt
faulty_run (Err why) asked old new faulty = λ one. faulty
