-- The start that a check speaks of is that of a series.
use Rattle.std.proofs.Common.{◌≡◌, Bool, true, false, not, cond, ◌||◌, List, [], ◌∷◌, ◌++◌, refl, sym, ap}
use Rattle.std.proofs.Common.{◌∙◌}
use Rattle.std.specs.List.{AllByRecursion, IsDistinct, list_any}
use Rattle.std.proofs.lemmas.List.Folds.{list_any-append}
use Rattle.std.proofs.lemmas.Map.Keys.{IsDistinct-head, IsDistinct-tail}
use Rattle.regatta_terms.specs.declared.sail.Sail.{Sail}
use Rattle.regatta_scores.specs.Journal.{Journal, entered, same_sail}
use Rattle.regatta_scores.proofs.Apart.{entered_more}
use Rattle.regatta_board.specs.Refusals.{is_entered}
use Rattle.regatta_board.proofs.Numbers.{is_same, same_is}
use Rattle.regatta_check.specs.ListAgreement.{started}
use Rattle.regatta_office.specs.KeptStarts.{missing_from}
use Rattle.regatta_office.specs.Starts.{entering, start_of}
use Rattle.regatta_office.proofs.Entering.{start_of-cons, start_of-none}

-- of a journal: an Enter for each boat
pub started_all : (journal : Journal) (sails : List Sail)
    → started false journal sails ≡ start_of journal sails
started_all journal [] = sym (start_of-none journal)
started_all journal (sail ∷ sails) =
    started_all (journal ++ entering journal sail ∷ []) sails ∙ sym (start_of-cons journal sail sails)

-- ---- of a kept file: an Enter for each boat that it hasn't entered

-- two sails are the same either way round
apart : (sail other : Sail) → same_sail sail other ≡ false → same_sail other sail ≡ false
apart sail other differ = by (same_sail other sail) refl
  where
    by : (same : Bool) → same_sail other sail ≡ same → same ≡ false
    by false is = refl
    by true is =
        let one : other ≡ sail = same_is other sail is in
        sym (is_same other) ∙ ap (λ (s : Sail). same_sail s other) one ∙ differ

-- another boat's Enter enters no boat
entered_still : (journal : Journal) (sail other : Sail) → same_sail sail other ≡ false
    → is_entered (journal ++ entering journal sail ∷ []) other ≡ is_entered journal other
entered_still journal sail other differ =
    ap (list_any (same_sail other)) (entered_more journal (entering journal sail))
    ∙ list_any-append (same_sail other) (entered journal) (sail ∷ [])
    ∙ by (is_entered journal other) (same_sail other sail) (apart sail other differ)
  where
    by : (before same : Bool) → same ≡ false → (before || (same || false)) ≡ before
    by true same no_more = refl
    by false same no_more = rw no_more refl

-- so it leaves the others missing
missing_still : (journal : Journal) (sail : Sail) (sails : List Sail)
    → AllByRecursion (λ other. same_sail sail other ≡ false) sails
    → missing_from (journal ++ entering journal sail ∷ []) sails ≡ missing_from journal sails
missing_still journal sail [] differ = refl
missing_still journal sail (other ∷ sails) differ =
    let here = entered_still journal sail other differ.0 in
    let rest = missing_still journal sail sails differ.1 in
    λ i. cond (not (here i)) (other ∷ rest i) (rest i)

pub started_missing : (journal : Journal) (sails : List Sail) → IsDistinct same_sail sails
    → started true journal sails ≡ start_of journal (missing_from journal sails)
started_missing journal [] distinct = sym (start_of-none journal)
started_missing journal (sail ∷ sails) distinct =
    by (is_entered journal sail)
    (started_missing journal sails (IsDistinct-tail same_sail sail sails distinct))
    (started_missing (journal ++ entering journal sail ∷ []) sails
    (IsDistinct-tail same_sail sail sails distinct))
  where
    next : Journal
    next = journal ++ entering journal sail ∷ []

    by : (has : Bool) → started true journal sails ≡ start_of journal (missing_from journal sails)
        → started true next sails ≡ start_of next (missing_from next sails)
        → cond has (started true journal sails) (started true next sails)
        ≡ start_of journal (cond (not has) (sail ∷ missing_from journal sails)
        (missing_from journal sails))
    by true stays goes = stays
    by false stays goes =
        goes
        ∙ ap (start_of next) (missing_still journal sail sails
        (IsDistinct-head same_sail sail sails distinct))
        ∙ sym (start_of-cons journal sail (missing_from journal sails))
