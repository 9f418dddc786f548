-- What was written when a table was printed.
use Rattle.std.proofs.Common.{◌≡◌, ◌⊎◌, ℕ, List, Option, Result, Ok, Err, Some, None, OnOk, IsErrOf}
use Rattle.std.proofs.Common.{true, refl, sym, inl, inr, subst, IfOk}
use Rattle.std.specs.Io.KnownBytes.{Appends, Keeps}
use mathlib.Core.List.{IsPrefix}
use Rattle.regatta_streams.specs.Texts.{AppendsPrefix}
use Rattle.regatta_terms.specs.Rules.{RulesParts}
use Rattle.regatta_scores.specs.AppendixA.{IsAppendixA}
use Rattle.regatta_scores.specs.Journal.{Journal}
use Rattle.regatta_scores.specs.Standing.{standing}
use Rattle.regatta_board.specs.BoardFacts.{BoardValue}
use Rattle.regatta_board.specs.Refusals.{is_lawful, limits}
use Rattle.regatta_office.specs.Asked.{BreaksOffTable, PrintsAtMostTable, PrintsKeptTable, PrintsTable}
use Rattle.regatta_office.specs.Transcript.{final_text}
use Rattle.regatta_office.specs.declared.form.Form.TheVariants.{Table}
use Rattle.regatta_office.specs.declared.scribe.ScribeFault.{ScribeFault}

-- equal bytes are kept
pub keeps_same : (old : Option (List ℕ)) → Keeps old old
keeps_same None = tt
keeps_same (Some bytes) = refl

-- what holds if a call succeeds, and what follows from it
pub on_ok : {A E P Q : Type 0} → (r : Result A E) → (P → Q) → OnOk r P → OnOk r Q
on_ok (Ok x) f p = f p
on_ok (Err e) f p = tt

-- what holds if a call succeeds, of a call that did
pub of_ok : {A E P : Type 0} → (r : Result A E) (x : A) → r ≡ Ok x → OnOk r P → P
of_ok {P = P} r x is p = subst (λ s. OnOk s P) is p

-- a table of a kept journal is a table
pub without_kept : {E : Type 0} (rules : RulesParts) (start : Journal) (old new : Option (List ℕ))
    → (r : Result Journal E) → IfOk r (λ kept. PrintsKeptTable rules start kept old new)
    → OnOk r (PrintsTable rules start old new)
without_kept rules start old new (Ok kept) printed = record {
  journal = printed.journal;
  begins = printed.begins;
  lawful = printed.lawful;
  table = printed.table;
  appendix_a = printed.appendix_a;
  computed = printed.computed;
  wrote = printed.wrote;
}
without_kept rules start old new (Err fault) printed = tt

-- one of two cases, and what follows from each
pub either : {P Q R S : Type 0} → P ⊎ Q → (P → R) → (Q → S) → R ⊎ S
either (inl p) f g = inl (f p)
either (inr q) f g = inr (g q)

-- whether or not printing failed, at most a table was written
pub at_most : {S A : Type 0} (contents : S → Option (List ℕ)) (rules : RulesParts) (start : Journal)
    (old new : S)
    → (r : Result A ScribeFault) → OnOk r (PrintsTable rules start (contents old) (contents new))
    → (IsErrOf r ScribeFault.Write → BreaksOffTable rules start (contents old) (contents new))
    → (IsErrOf r ScribeFault.NoMemory → new ≡ old)
    → PrintsAtMostTable rules start (contents old) (contents new)
at_most contents rules start old new (Ok x) table cut silent = inr (inl table)
at_most contents rules start old new (Err ScribeFault.Write) table cut silent = inr (inr (cut refl))
at_most contents rules start old new (Err ScribeFault.NoMemory) table cut silent =
    inl (subst (λ s. Keeps (contents old) (contents s)) (sym (silent refl)) (keeps_same (contents old)))

-- the table of a board that is lawful under the rules and begins with the start was printed
module _ {S : Type 0} (contents : S → Option (List ℕ)) (rules : RulesParts) (start : Journal)
    (old new : S) (board : BoardValue) (same : board.rules ≡ rules)
    (begins : IsPrefix start board.entries)
    (lawful : is_lawful limits rules board.entries ≡ true)
    (fits : IsAppendixA board.rules board.entries (standing board.rules board.entries)) where
  table_fits : IsAppendixA rules board.entries (standing rules board.entries)
  table_fits = subst (λ (rules : RulesParts). IsAppendixA rules board.entries
      (standing rules board.entries)) same fits

  pub table_printed : {A E : Type 0} (r : Result A E)
      → OnOk r (Appends (contents old) (contents new) (final_text board.rules Table board.entries))
      → OnOk r (PrintsTable rules start (contents old) (contents new))
  table_printed r wrote = on_ok r (λ all. record {
    journal = board.entries;
    begins = begins;
    lawful = lawful;
    table = standing rules board.entries;
    appendix_a = table_fits;
    computed = refl;
    wrote = subst (λ (rules : RulesParts). Appends (contents old) (contents new)
        (final_text rules Table board.entries)) same all;
  }) wrote

  -- or at most that
  pub at_most_printed : {A : Type 0} (r : Result A ScribeFault)
      → OnOk r (Appends (contents old) (contents new) (final_text board.rules Table board.entries))
      → (IsErrOf r ScribeFault.Write → AppendsPrefix (contents old) (contents new)
      (final_text board.rules Table board.entries))
      → (IsErrOf r ScribeFault.NoMemory → new ≡ old)
      → PrintsAtMostTable rules start (contents old) (contents new)
  at_most_printed r wrote cut silent =
      at_most contents rules start old new r (table_printed r wrote) (λ write. record {
        journal = board.entries;
        begins = begins;
        lawful = lawful;
        table = standing rules board.entries;
        appendix_a = table_fits;
        computed = refl;
        wrote = subst (λ (rules : RulesParts). AppendsPrefix (contents old) (contents new)
            (final_text rules Table board.entries)) same (cut write);
      }) silent

-- the same of a start that is known by an equation, under rules that are
pub at_most_from : (rules under : RulesParts) (start opened : Journal) (old new : Option (List ℕ))
    → under ≡ rules → opened ≡ start → PrintsAtMostTable under opened old new
    → PrintsAtMostTable rules start old new
at_most_from rules under start opened old new same is printed =
    subst (λ (start : Journal). PrintsAtMostTable rules start old new) is
    (subst (λ (rules : RulesParts). PrintsAtMostTable rules opened old new) same printed)
