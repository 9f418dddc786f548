-- What contracts see of a pass, and what holds of each.
use Rattle.std.specs.Prelude.{◌≡◌, ℕ, ◌-◌, ◌≤◌, List, [], ◌∷◌, ◌++◌, length, slice_get}
use Rattle.std.specs.Prelude.{Option, Some, None, true}
use Rattle.std.specs.Prelude.{IsTrue, IfSome, All}
use mathlib.Core.List.{IsPrefix}
use Rattle.atomic_table.specs.Seated.{TableId}
use Rattle.regatta_terms.specs.Entries.{EntryParts, is_seat}
use Rattle.regatta_terms.specs.Rules.{RulesParts}
use Rattle.regatta_terms.specs.declared.command.Command.{Command}
use Rattle.regatta_terms.specs.declared.command.Role.{Role}
use Rattle.regatta_scores.specs.Journal.{Journal}
use Rattle.regatta_board.specs.BoardFacts.{BoardValue}
use Rattle.regatta_board.specs.Refusals.{is_lawful, limits, next_entry}
use Rattle.regatta_tables.specs.ShownText.{IsTextOfFirst}
use Rattle.regatta_watch.specs.Notes.{ListenerValue}
use Rattle.regatta_watch.specs.Views.{journal_of, Names}
use Rattle.regatta_watch.specs.declared.publication.ReaderView.{ReaderView}
use Rattle.regatta_desk.specs.Receipts.{EndsWith}
use Rattle.regatta_desk.specs.declared.last_sheet.LastSheet.{LastSheet}
use Rattle.regatta_desk.specs.declared.pass.Seen.{Seen}

-- seen: the journal that the pass was shown last. told: the journals that it was told of, in order:
-- those of receipts, and those that the desk had when it was to answer the pass
pub record PassValue : Type 0 where
  pub seat : ℕ
  pub last : ℕ
  pub seen : Journal
  pub told : List Journal

-- the entry for the next command of a pass
abbrev pub entry_of : PassValue → Role → Command → EntryParts
entry_of pass role command = next_entry pass.seat pass.last role command

-- the pass after it was told of this journal
abbrev pub with_told : PassValue → Journal → PassValue
with_told pass journal = record pass { told = pass.told ++ journal ∷ [] }

-- the pass after its command was run: this entry is its last, and it was told of this journal
abbrev pub with_run : PassValue → EntryParts → Journal → PassValue
with_run pass entry journal =
    record pass { last = entry.nth; told = pass.told ++ journal ∷ [] }

-- the journal that was seen: that of its note, followed by the last entry if there is one
abbrev pub seen_of : Seen → Journal
seen_of seen = journal_of seen.journal.note.journal seen.journal.last

-- how long a journal is, and its last entry, if it has one
abbrev pub IsKnown : Journal → Option (ℕ × EntryParts) → Type 0
IsKnown journal None = journal ≡ []
IsKnown journal (Some (count, last)) = (count ≡ length journal) × EndsWith journal last

-- the journal has `count` entries or more, and this is the last of the first `count`
abbrev pub Reaches : Journal → ℕ → EntryParts → Type 0
Reaches journal count last =
    (count ≤ length journal) × (slice_get journal (count - 1) ≡ Some last)

-- the history of this name has reached the journals that a listener was told of: each is a beginning
-- of the longest, of which this is known
pub record IsTold (name : TableId) (listener : ListenerValue) (shared : TableId)
    (known : Option (ℕ × EntryParts)) : Type 0 where
  pub listens : listener.history ≡ name
  pub shares : shared ≡ name
  pub longest : IsKnown listener.longest known
  pub each : All (λ j. IsPrefix j listener.longest) listener.told

-- a lawful journal, with the ledger of a beginning of it, if there is one
pub record GoesOnFrom (rules : RulesParts) (entries : Journal) (ledger : Option BoardValue) : Type 0
  where
    pub lawful : is_lawful limits rules entries ≡ true
    pub begins : IfSome ledger (λ l. (l.rules ≡ rules) × IsPrefix l.entries entries)

-- what a pass keeps of the sheet of this journal: its ledger, or none, and the text of its first
-- entries
pub record IsLastSheet (rules : RulesParts) (journal : Journal) (sheet : LastSheet) : Type 0 where
  pub ledger : IfSome sheet.ledger (λ l. l ≡ record { rules = rules; entries = journal })
  pub text : IsTextOfFirst journal sheet.text

-- what holds of each pass of the office with these rules and this history: its watcher sees no less
-- than the pass has seen, and what it keeps of its last sheet is of the journal that it has seen
pub record IsPass (rules : RulesParts) (history : TableId) (seat : ℕ) (watcher : ReaderView)
    (seen : Seen) (sheet : LastSheet) : Type 0 where
  pub seated : IsTrue (is_seat seat)
  pub front : IsPrefix (seen_of seen) watcher.seen
  pub noted : seen.journal.note.history ≡ history
  pub sees : seen.length ≡ length (seen_of seen)
  pub names : Names watcher rules history
  pub keeps : IsLastSheet rules (seen_of seen) sheet
