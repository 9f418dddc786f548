-- What is kept of a journal agrees with the journal.
use Rattle.std.proofs.Common.{◌≡◌, ℕ, ◌-◌, true, false}
use Rattle.std.proofs.Common.{ap, ◌∙◌, sym, subst, arith, map, get_or, nat_eq}
use Rattle.std.specs.List.{range_with_len}
use Rattle.std.proofs.lemmas.List.FromFn.{get_or-map-range_with_len}
use Rattle.regatta_terms.specs.Rules.{RulesParts}
use Rattle.regatta_terms.specs.declared.sail.Sail.{Sail}
use Rattle.regatta_terms.specs.declared.limits.TheConstants.{MAX_RACES}
use Rattle.regatta_scores.specs.Order.{stands_in, is_empty}
use Rattle.regatta_scores.specs.Sheet.{Sheet, nothing_held, empty_sheet}
use Rattle.regatta_scores.specs.Journal.{Journal, entered, order, held, is_scored}
use Rattle.regatta_terms.specs.Entries.{IsRace}
use Rattle.regatta_board.specs.Refusals.{is_entered, is_placed}
use Rattle.regatta_board.specs.KeptJournal.{number, sheet_of, kept_of, IsOrderly}
use Rattle.regatta_board.specs.Step.{number_in, sheet_in}
use Rattle.regatta_board.specs.Table.{Kept}
use Rattle.regatta_board.proofs.Allowed.{placed_same}
use Rattle.regatta_board.proofs.Numbers.{found_under}
use Rattle.regatta_board.proofs.Renumbered.{same_emptiness}

-- what is kept of a race is at its index
race_at : {X : Type 0} (f : ℕ → X) (d : X) (race : ℕ) → IsRace race
    → get_or (map f (range_with_len 1 MAX_RACES)) (race - 1) d ≡ f race
race_at f d race r = get_or-map-range_with_len f 1 MAX_RACES (race - 1) race d
    (omega (arith, r.0, r.1)) (omega (arith, r.0))

pub sheet_is : (rules : RulesParts) (journal : Journal) (race : ℕ) → IsRace race
    → sheet_in (kept_of rules journal) race ≡ sheet_of rules journal race
sheet_is rules journal = race_at (sheet_of rules journal) (empty_sheet 0)

pub counts_are : (rules : RulesParts) (journal : Journal) (race : ℕ) → IsRace race
    → get_or (kept_of rules journal).counts (race - 1) false ≡ is_scored journal race
counts_are rules journal = race_at (is_scored journal) false

module _ (rules : RulesParts) (journal : Journal) (o : IsOrderly rules journal) (kept : Kept)
    (e : kept ≡ kept_of rules journal)
  where
    sheet_kept : (race : ℕ) → IsRace race → sheet_in kept race ≡ sheet_of rules journal race
    sheet_kept race r = ap (λ k. sheet_in k race) e ∙ sheet_is rules journal race r

    number_kept : (boat : Sail) → number_in kept boat ≡ number journal boat
    number_kept boat = ap (λ k. number_in k boat) e

    moved : (race : ℕ) → IsRace race → (boat : Sail) (n : ℕ) → n ≡ number journal boat
        → (P : Sheet → ℕ → Type 0) → P (sheet_of rules journal race) (number journal boat)
        → P (sheet_in kept race) n
    moved race r boat n at P p = subst (λ s. P s n) (sym (sheet_kept race r))
        (subst (P (sheet_of rules journal race)) (sym at) p)

    pub placed_is : (race : ℕ) → IsRace race → (boat : Sail) {n : ℕ} → n ≡ number journal boat
        → is_entered journal boat ≡ true
        → stands_in nat_eq n (sheet_in kept race).order ≡ is_placed rules journal race boat
    placed_is race r boat at h =
        moved race r boat _ at (λ s n. stands_in nat_eq n s.order ≡ is_placed rules journal race boat)
        (placed_same rules journal race boat h)

    pub held_is : (race : ℕ) → IsRace race → (boat : Sail) {n : ℕ} → n ≡ number journal boat
        → get_or (sheet_in kept race).held n nothing_held ≡ held journal race boat
    held_is race r boat at =
        moved race r boat _ at (λ s n. get_or s.held n nothing_held ≡ held journal race boat)
        (found_under (held journal race) nothing_held (entered journal) boat (o.nothing race boat))

    pub scored_is : (race : ℕ) → IsRace race
        → get_or kept.counts (race - 1) false ≡ is_scored journal race
    scored_is race r = ap (λ k. get_or k.counts (race - 1) false) e
        ∙ counts_are rules journal race r

    pub empty_is : (race : ℕ) → IsRace race
        → is_empty (sheet_in kept race).order ≡ is_empty (order rules journal race)
    empty_is race r = ap (λ s. is_empty s.order) (sheet_kept race r)
        ∙ same_emptiness (map (number journal)) (order rules journal race)
