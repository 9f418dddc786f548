-- What is wrong with the rows of an entry list, after a journal.
use Rattle.std.specs.Prelude.{ℕ, ◌+◌, Bool, ◌&&◌, List, [], ◌∷◌, ◌++◌, length, nat_le, Option, Some, None}
use Rattle.std.specs.Prelude.{if◌then◌else◌}
use Rattle.std.specs.List.{list_any}
use Rattle.std.specs.Option.{option_map, option_or}
use Rattle.regatta_terms.specs.Rules.{RulesParts}
use Rattle.regatta_terms.specs.declared.command.Command.TheVariants.{Enter}
use Rattle.regatta_terms.specs.declared.command.Role.TheVariants.{Scorer}
use Rattle.regatta_terms.specs.declared.limits.TheConstants.{MAX_BOATS}
use Rattle.regatta_terms.specs.declared.reply.Refusal.{Refusal}
use Rattle.regatta_terms.specs.declared.sail.Sail.{Sail}
use Rattle.regatta_scores.specs.Journal.{Journal, same_sail}
use Rattle.regatta_board.specs.Refusals.{is_entered, limits, refusal}
use Rattle.regatta_board.specs.Runs.{journal_by, sent}
use Rattle.regatta_tables.specs.ListedRows.{listed_of_text}
use Rattle.regatta_tables.specs.declared.listed.Listed.{Listed}
use Rattle.regatta_tables.specs.declared.listed.Listed.TheVariants.{Blank, NoField, NoSail, Boat}
use Rattle.regatta_check.specs.declared.parts.RowFault.{RowFault}
use Rattle.regatta_check.specs.declared.parts.RowKind.{RowKind}
use Rattle.regatta_check.specs.declared.parts.RowKind.TheVariants.{NoColumn, BadRow, BadSail, Twice}
use Rattle.regatta_check.specs.declared.parts.RowKind.TheVariants.{TooMany, Refused}

-- the boats of the rows so far that a list may have, and the journal with those that are entered
pub record Listing : Type 0 where
  pub sails : List Sail
  pub journal : Journal

-- a row with this fault, if it has one
abbrev pub row_fault_at : ℕ → Option RowKind → List RowFault
row_fault_at row None = []
row_fault_at row (Some kind) = record { row = row; kind = kind } ∷ []

-- ---- the list alone

-- what a list has against a row, given the boats of earlier rows
abbrev pub listed_kind : List Sail → Listed → Option RowKind
listed_kind sails Blank = None
listed_kind sails NoField = Some BadRow
listed_kind sails NoSail = Some BadSail
listed_kind sails (Boat sail) =
    if list_any (λ other. same_sail other sail) sails then Some Twice
    else if nat_le MAX_BOATS (length sails) then Some TooMany
    else None

-- the boat that a row names, if it names one
abbrev pub boats_in : Listed → List Sail
boats_in Blank = []
boats_in NoField = []
boats_in NoSail = []
boats_in (Boat sail) = sail ∷ []

-- ---- the boats, entered after a journal

-- whether a boat isn't entered again: a series that goes on from a kept file skips those that it has
abbrev pub is_skipped : Bool → Journal → Sail → Bool
is_skipped goes_on journal sail = goes_on && is_entered journal sail

module _ (rules : RulesParts) (goes_on : Bool) where
  -- why a boat's Enter is refused, if it is
  abbrev pub boat_refusal : Journal → Sail → Option Refusal
  boat_refusal journal sail =
      if is_skipped goes_on journal sail then None
      else refusal limits rules journal (sent journal Scorer (Enter sail))

  -- the journal after a boat: a refused one leaves no trace
  abbrev pub journal_entered : Journal → Sail → Journal
  journal_entered journal sail =
      if is_skipped goes_on journal sail then journal
      else journal_by journal (sent journal Scorer (Enter sail))
      (refusal limits rules journal (sent journal Scorer (Enter sail)))

  -- what is wrong with entering what a row names
  abbrev pub entering_kind : Journal → Listed → Option RowKind
  entering_kind journal Blank = None
  entering_kind journal NoField = None
  entering_kind journal NoSail = None
  entering_kind journal (Boat sail) = option_map Refused (boat_refusal journal sail)

  -- the journal after what a row names
  abbrev pub journal_listed : Journal → Listed → Journal
  journal_listed journal Blank = journal
  journal_listed journal NoField = journal
  journal_listed journal NoSail = journal
  journal_listed journal (Boat sail) = journal_entered journal sail

  -- ---- the rows

  -- what is wrong with a row: what the list has against it, or else the refusal of its boat
  abbrev pub row_kind : Listing → Listed → Option RowKind
  row_kind so_far listed =
      option_or (listed_kind so_far.sails listed) (entering_kind so_far.journal listed)

  -- what is listed after a row: one that the list has something against leaves no trace
  abbrev pub listing_by : Option RowKind → Listing → Listed → Listing
  listing_by None so_far listed = record {
    sails = so_far.sails ++ boats_in listed;
    journal = journal_listed so_far.journal listed;
  }
  listing_by (Some kind) so_far listed = so_far

  abbrev pub listing_after : Listing → Listed → Listing
  listing_after so_far listed = listing_by (listed_kind so_far.sails listed) so_far listed

  -- what is wrong with rows, from the number of the first
  unfoldable pub row_faults : ℕ → Listing → List Listed → List RowFault
  row_faults row so_far [] = []
  row_faults row so_far (listed ∷ rows) =
      row_fault_at row (row_kind so_far listed)
      ++ row_faults (row + 1) (listing_after so_far listed) rows

  -- what is wrong with the rows after the header, if it has a column of sails
  abbrev pub faults_under : Journal → Option (List Listed) → List RowFault
  faults_under journal None = record { row = 1; kind = NoColumn } ∷ []
  faults_under journal (Some rows) =
      row_faults 2 (record { sails = []; journal = journal }) rows

  -- what is wrong with the text of an entry list, after this journal
  unfoldable pub list_faults : Journal → List ℕ → List RowFault
  list_faults journal text = faults_under journal (listed_of_text text)

  -- the same, if there is a list
  abbrev pub list_faults_if : Journal → Option (List ℕ) → List RowFault
  list_faults_if journal None = []
  list_faults_if journal (Some text) = list_faults journal text
