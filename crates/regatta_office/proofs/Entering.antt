-- The boats of an entry list, one after another.
use Rattle.std.proofs.Common.{◌≡◌, ℕ, ◌+◌, ◌<◌, cond, List, [], ◌∷◌, ◌++◌, length, drop, get_or}
use Rattle.std.proofs.Common.{nat_eq, refl, sym, ap, ◌∙◌, drop-cons, add-one}
use Rattle.std.proofs.Math.Seq.{drop-length}
use Rattle.regatta_terms.specs.Entries.{EntryParts}
use Rattle.regatta_terms.specs.declared.command.Command.TheVariants.{Enter}
use Rattle.regatta_terms.specs.declared.command.Role.TheVariants.{Scorer}
use Rattle.regatta_scores.specs.Journal.{Journal}
use Rattle.regatta_board.specs.Refusals.{last_number, next_entry}
use Rattle.regatta_board.specs.declared.journal.TheConstants.{REPLAY_SEAT}
use Rattle.regatta_board.proofs.LastNumber.{number_push}
use Rattle.regatta_office.specs.Starts.{entering, start_of}

pub start_of-cons : (journal : Journal) (sail : List ℕ) (sails : List (List ℕ))
    → start_of journal (sail ∷ sails) ≡ start_of (journal ++ entering journal sail ∷ []) sails
unfolding start_of
start_of-cons journal sail sails = refl

pub start_of-none : (journal : Journal) → start_of journal [] ≡ journal
unfolding start_of
start_of-none journal = refl

module _ (journal next : Journal) (sails : List (List ℕ)) (i last : ℕ) (sail : List ℕ)
    (entry : EntryParts) (h : i < length sails) (is : sail ≡ get_or sails i sail)
    (numbered : last ≡ last_number journal REPLAY_SEAT)
    (made : entry ≡ next_entry REPLAY_SEAT last Scorer (Enter sail))
    (pushed : next ≡ journal ++ entry ∷ []) where
  entered : entry ≡ entering journal sail
  entered = made ∙ ap (λ (n : ℕ). next_entry REPLAY_SEAT n Scorer (Enter sail)) numbered

  -- the last number of the seat is that of the entry
  pub last_more : entry.nth ≡ last_number next REPLAY_SEAT
  last_more =
      sym (ap (λ (j : Journal). last_number j REPLAY_SEAT) pushed
      ∙ number_push journal entry REPLAY_SEAT
      ∙ ap (λ (n : ℕ). cond (nat_eq n REPLAY_SEAT) entry.nth (last_number journal REPLAY_SEAT))
      (ap (λ (e : EntryParts). e.seat) made))

  pub start_more : start_of next (drop (i + 1) sails) ≡ start_of journal (drop i sails)
  start_more =
      let rest : drop i sails ≡ get_or sails i sail ∷ drop (i + 1) sails = rw add-one
      (drop-cons sails i sail h) in
      ap (λ (j : Journal). start_of j (drop (i + 1) sails))
      (pushed ∙ ap (λ (e : EntryParts). journal ++ e ∷ []) entered)
      ∙ sym (start_of-cons journal sail (drop (i + 1) sails))
      ∙ ap (λ (s : List ℕ). start_of journal (s ∷ drop (i + 1) sails)) is
      ∙ ap (start_of journal) (sym rest)

pub start_done : (journal : Journal) (sails : List (List ℕ)) (i : ℕ) → i ≡ length sails
    → start_of journal (drop i sails) ≡ journal
start_done journal sails i at = ap (start_of journal)
    (ap (λ (n : ℕ). drop n sails) at ∙ drop-length sails) ∙ start_of-none journal
