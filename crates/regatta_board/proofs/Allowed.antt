-- A boat's number is in a sheet's order if she is in the journal's, and is below the number of boats
-- if she is entered.
use Rattle.std.proofs.Common.{◌≡◌, ℕ, ◌<◌, true, ◌||◌, List, [], ◌∷◌}
use Rattle.std.proofs.Common.{refl, ◌∙◌, length, map, nat_eq}
use Rattle.std.specs.List.{list_any}
use Rattle.std.proofs.lemmas.Bool.{ltb-true}
use Rattle.regatta_terms.specs.Rules.{RulesParts}
use Rattle.regatta_terms.specs.declared.sail.Sail.{Sail}
use Rattle.regatta_scores.specs.Order.{stands_in}
use Rattle.regatta_scores.specs.Journal.{Journal, same_sail, entered, order}
use Rattle.regatta_board.specs.Refusals.{is_entered, is_placed}
use Rattle.regatta_board.specs.KeptJournal.{number, sheet_of}
use Rattle.regatta_board.proofs.Found.{passes}
use Rattle.regatta_board.proofs.Numbers.{index_in}
use Rattle.regatta_board.proofs.Renumbered.{group_numbered}

-- a boat is placed on the sheet if and only if she is in the journal
pub placed_same : (rules : RulesParts) (journal : Journal) (race : ℕ) (boat : Sail)
    → is_entered journal boat ≡ true
    → stands_in nat_eq (number journal boat) (sheet_of rules journal race).order
    ≡ is_placed rules journal race boat
placed_same rules journal race boat known = by (order rules journal race)
  where
    by : (gs : List (List Sail))
        → stands_in nat_eq (number journal boat) (map (map (number journal)) gs)
        ≡ stands_in same_sail boat gs
    by [] = refl
    by (g ∷ gs) = λ i. group_numbered (entered journal) boat known g i || by gs i

pub index_below : (xs : List Sail) (x : Sail) → list_any (same_sail x) xs ≡ true
    → index_in xs x < length xs
index_below xs x h = ltb-true _ _ (passes (same_sail x) xs ∙ h)
