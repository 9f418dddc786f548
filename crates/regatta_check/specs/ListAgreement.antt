-- What the faults of an entry list say of how the program reads it, and enters its boats.
use Rattle.std.specs.Prelude.{◌≡◌, ◌↔◌, ℕ, Bool, true, List, [], ◌∷◌, ◌++◌, Option, Some, None, Ok}
use Rattle.std.specs.Prelude.{if◌then◌else◌}
use Rattle.std.specs.Option.{option_or}
use Rattle.regatta_terms.specs.Rules.{RulesParts}
use Rattle.regatta_terms.specs.declared.command.Command.TheVariants.{Enter}
use Rattle.regatta_terms.specs.declared.command.Role.TheVariants.{Scorer}
use Rattle.regatta_terms.specs.declared.sail.Sail.{Sail}
use Rattle.regatta_scores.specs.Journal.{Journal}
use Rattle.regatta_board.specs.Refusals.{is_lawful, limits}
use Rattle.regatta_board.specs.Runs.{sent}
use Rattle.regatta_tables.specs.EntryLists.{entries_of_text}
use Rattle.regatta_tables.specs.declared.entries.EntriesFault.{EntriesFault}
use Rattle.regatta_tables.specs.declared.entries.EntriesFault.TheVariants as reader
use Rattle.regatta_check.specs.Agreement.{fault_in}
use Rattle.regatta_check.specs.EntryRows.{is_skipped}
use Rattle.regatta_check.specs.declared.parts.RowFault.{RowFault}
use Rattle.regatta_check.specs.declared.parts.RowKind.{RowKind}
use Rattle.regatta_check.specs.declared.parts.RowKind.TheVariants.{NoColumn, BadRow, BadSail, Twice}
use Rattle.regatta_check.specs.declared.parts.RowKind.TheVariants.{TooMany, Refused}

-- what a fault of this kind is to the reader: a refused boat is none
abbrev pub unlisted : ℕ → RowKind → Option EntriesFault
unlisted row NoColumn = Some reader.NoColumn
unlisted row BadRow = Some (reader.BadRow row)
unlisted row BadSail = Some (reader.BadSail row)
unlisted row Twice = Some (reader.Twice row)
unlisted row TooMany = Some (reader.TooMany row)
unlisted row (Refused why) = None

-- the first of faults that keeps the list from being read, as the reader names it
abbrev pub first_unlisted : List RowFault → Option EntriesFault
first_unlisted [] = None
first_unlisted (fault ∷ faults) = option_or (unlisted fault.row fault.kind) (first_unlisted faults)

-- the start of a series: a journal with an Enter for each boat, but those that it skips
abbrev pub started : Bool → Journal → List Sail → Journal
started goes_on journal [] = journal
started goes_on journal (sail ∷ sails) =
    if is_skipped goes_on journal sail then started goes_on journal sails
    else started goes_on (journal ++ sent journal Scorer (Enter sail) ∷ []) sails

-- these faults say what the program says of the list. Its reader names the first fault of a row that it
-- can't take, and reads the list exactly if there is none. And nothing is wrong exactly if it reads the
-- list, and a replay takes the start with its boats after this journal
pub record AgreesOnList (rules : RulesParts) (goes_on : Bool) (journal : Journal) (text : List ℕ)
    (rows : List RowFault) : Type 0 where
  pub reading : fault_in (entries_of_text text) ≡ first_unlisted rows
  pub nothing : (rows ≡ []) ↔ ((sails : List Sail) × (entries_of_text text ≡ Ok sails)
      × (is_lawful limits rules (started goes_on journal sails) ≡ true))
