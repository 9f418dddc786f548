-- The entries that a series starts with, and a run that fails at them.
use Rattle.std.specs.Prelude.{◌≡◌, ℕ, true, List, [], ◌∷◌, ◌++◌, Option, Some, None, Result, Ok}
use Rattle.std.specs.Prelude.{Err}
use Rattle.regatta_terms.specs.Entries.{EntryParts}
use Rattle.regatta_terms.specs.Rules.{RulesParts}
use Rattle.regatta_terms.specs.declared.command.Command.TheVariants.{Enter}
use Rattle.regatta_terms.specs.declared.command.Role.TheVariants.{Scorer}
use Rattle.regatta_terms.specs.declared.reply.Refusal.{Refusal}
use Rattle.regatta_scores.specs.Journal.{Journal}
use Rattle.regatta_board.specs.Refusals.{is_lawful, last_number, limits, next_entry}
use Rattle.regatta_board.specs.Replays.{first_refused}
use Rattle.regatta_board.specs.declared.journal.TheConstants.{REPLAY_SEAT}
use Rattle.regatta_office.specs.declared.run.RunFault.{RunFault}
use Rattle.regatta_office.specs.declared.run.RunFault.TheVariants as fault

-- the entry by which the scorer in the seat of a replay enters a boat
abbrev pub entering : Journal → List ℕ → EntryParts
entering journal sail =
    next_entry REPLAY_SEAT (last_number journal REPLAY_SEAT) Scorer (Enter sail)

-- the entries, and then an Enter for each sail
unfoldable pub start_of : Journal → List (List ℕ) → Journal
start_of journal [] = journal
start_of journal (sail ∷ sails) = start_of (journal ++ entering journal sail ∷ []) sails

-- the faults of a run by the first refused entry of its start: that entry, or out of memory; any
-- other fault comes only if no entry is refused
abbrev pub IsRunFault : Option (ℕ × Refusal) → RunFault → Type 0
IsRunFault due (fault.Start at why) = due ≡ Some (at, why)
IsRunFault due fault.NoMemory = Unit {0}
IsRunFault due _ = due ≡ None

-- the start of a run with this result: it is lawful if the run succeeds, and a fault of the start is
-- that of its first refused entry
abbrev pub IsStartOf : {A : Type 0} → RulesParts → Journal → Result A RunFault → Type 0
IsStartOf rules start (Ok done) = is_lawful limits rules start ≡ true
IsStartOf rules start (Err fault) = IsRunFault (first_refused rules start) fault
