-- What contracts see of a desk, and what holds whenever its lock is free.
use Rattle.std.specs.Prelude.{◌≡◌, ℕ, [], ◌∷◌, ◌++◌, None, Result, IfErr, IfOk, OnErr, OnOk}
use Rattle.atomic_table.specs.Seated.{TableId}
use Rattle.regatta_terms.specs.Entries.{EntryParts}
use Rattle.regatta_terms.specs.Rules.{RulesParts}
use Rattle.regatta_terms.specs.declared.reply.Answer.{Answer}
use Rattle.regatta_terms.specs.declared.reply.Refusal.{Refusal}
use Rattle.regatta_scores.specs.Journal.{Journal}
use Rattle.regatta_board.specs.Answers as answers
use Rattle.regatta_board.specs.Refusals.{IsRefusal, limits, refusal}
use Rattle.regatta_board.specs.BoardFacts.{BoardValue}
use Rattle.regatta_watch.specs.Notes.{NoteValue}
use Rattle.regatta_watch.specs.Publishers.{PublisherValue}

-- the board's rules and journal, the published journal, and the number of entries not published yet
pub record DeskValue : Type 0 where
  pub rules : RulesParts
  pub entries : Journal
  pub published : Journal
  pub pending : ℕ

-- a board with these rules and this journal
abbrev pub board_value : RulesParts → Journal → BoardValue
board_value rules entries = record { rules = rules; entries = entries }

-- the desk after an entry is appended and published
abbrev pub desk_with : DeskValue → EntryParts → DeskValue
desk_with desk entry = record {
  rules = desk.rules;
  entries = desk.entries ++ entry ∷ [];
  published = desk.entries ++ entry ∷ [];
  pending = 0;
}

-- the publication and the history have exactly the board's journal, under these rules, and nothing
-- is pending
pub record AtRest (board : BoardValue) (now : PublisherValue) (known : NoteValue)
    (rules : RulesParts) (history : TableId) : Type 0 where
  pub list : now.published.entries ≡ board.entries
  pub under : now.published.rules ≡ rules
  pub noted : now.published.history ≡ history
  pub idle : now.pending ≡ []
  pub known_whole : known.journal ≡ board.entries
  pub named : known.history ≡ history
  pub board_rules : board.rules ≡ rules

-- an entry was appended to the journal and published, and has this answer; or it was refused, and
-- nothing has changed
pub record AppendsEntry {A : Type 0} (rules : RulesParts) (entry : EntryParts)
    (answer_of : A → Answer) (old new : DeskValue) (result : Result A Refusal) : Type 0 where
  pub accepted : OnOk result (refusal limits rules old.entries entry ≡ None)
  pub journal : OnOk result (new.entries ≡ old.entries ++ entry ∷ [])
  pub published : OnOk result ((new.published ≡ new.entries) × (new.pending ≡ 0))
  pub answer : IfOk result (λ a. answer_of a ≡ answers.answer rules old.entries entry)
  pub refused : IfErr result (IsRefusal (refusal limits rules old.entries entry))
  pub err : OnErr result (new ≡ old)
  pub rules_stay : new.rules ≡ old.rules
