-- What contracts see of a receipt.
use Rattle.std.specs.Prelude.{◌≡◌, ℕ, [], ◌∷◌, ◌++◌}
use Rattle.regatta_terms.specs.Entries.{EntryParts}
use Rattle.regatta_terms.specs.declared.reply.Answer.{Answer}
use Rattle.regatta_scores.specs.Journal.{Journal}

-- the place of an entry, its answer, and the journal that ends with it
pub record ReceiptValue : Type 0 where
  pub place : ℕ
  pub answer : Answer
  pub journal : Journal

-- the receipt with this answer and journal
abbrev pub receipt_of : Answer → Journal → ReceiptValue
receipt_of answer journal =
    record { place = answer.place; answer = answer; journal = journal }

-- the entry is the journal's last
abbrev pub EndsWith : Journal → EntryParts → Type 0
EndsWith journal entry = (before : Journal) × (journal ≡ before ++ entry ∷ [])
