-- The effect of one more act in a race on what a boat holds.
use Rattle.std.proofs.Common.{◌≡◌, ℕ, suc, ◌+◌, ◌<◌, Bool, true, false, cond, not, List, [], ◌∷◌}
use Rattle.std.proofs.Common.{◌++◌, refl, ap, ◌∙◌, sym, arith, length, map, get_or, slice_set}
use Rattle.std.specs.List.{AllByRecursion}
use Rattle.std.proofs.lemmas.List.Elements.{recursion_from_All}
use Rattle.regatta_terms.specs.Effects.{Decision, Act, Places, Strikes, Decides, Counts}
use Rattle.regatta_terms.specs.declared.sail.Sail.{Sail}
use Rattle.regatta_scores.specs.Changes.{with_decision}
use Rattle.regatta_scores.specs.Journal.{same_sail}
use Rattle.regatta_scores.proofs.LastingTimes.{IsOfOthers}
use Rattle.regatta_scores.proofs.OneMore.{held_from, held_step}
use Rattle.regatta_board.proofs.Numbers.{index_in, same_is, is_same, map_known}

pub decided : (acts : List Act) (boat : Sail) (decision : Decision)
    → held_from (acts ++ Decides boat decision ∷ []) boat
    ≡ with_decision (held_from acts boat) decision
decided acts boat decision = held_step boat acts (Decides boat decision) ∙ rw (is_same boat) refl

-- an act that concerns another boat changes nothing that she holds
pub others_hold : (acts : List Act) (act : Act) (boat : Sail) → IsOfOthers boat act
    → held_from (acts ++ act ∷ []) boat ≡ held_from acts boat
others_hold acts (Decides sail decision) boat h =
    held_step boat acts (Decides sail decision) ∙ rw h refl
others_hold acts (Places sail placing) boat h = held_step boat acts (Places sail placing)
others_hold acts (Strikes sail) boat h = held_step boat acts (Strikes sail)
others_hold acts (Counts counts) boat h = held_step boat acts (Counts counts)

-- one boat's record is replaced, at her number
pub held_replaced : {V : Type 0} (f g : Sail → V) (s : Sail) (xs : List Sail)
    → ((x : Sail) → same_sail x s ≡ false → g x ≡ f x)
    → ((i j : ℕ) (d : Sail) → i < j → j < length xs
    → same_sail (get_or xs j d) (get_or xs i d) ≡ false)
    → map g xs ≡ slice_set (map f xs) (index_in xs s) (g s)
held_replaced f g s [] same apart = refl
held_replaced f g s (z ∷ zs) same apart =
    by (same_sail s z) refl
    (held_replaced f g s zs same (λ i j d h k. apart (suc i) (suc j) d (omega arith) (omega arith)))
  where
    other : (x y : Sail) → same_sail x y ≡ false → (b : Bool) → same_sail y x ≡ b → b ≡ false
    other x y h true e = let one : x ≡ y = sym (same_is y x e) in let no_way : true ≡ false =
        sym (is_same x) ∙ ap (same_sail x) one ∙ h in absurd (cc)
    other x y h false e = refl

    by : (b : Bool) → same_sail s z ≡ b → map g zs ≡ slice_set (map f zs) (index_in zs s) (g s)
        → map g (z ∷ zs)
        ≡ slice_set (map f (z ∷ zs)) (cond (not (same_sail s z)) (1 + index_in zs s) 0) (g s)
    by true e rest =
        let one : s ≡ z = same_is s z e in
        let apart_from : AllByRecursion (λ x. same_sail x s ≡ false) zs =
        recursion_from_All (λ x. same_sail x s ≡ false) zs
        (λ k d h. ap (same_sail (get_or zs k d)) one
        ∙ apart 0 (suc k) d (omega arith) (omega arith)) in
        let rest_same = map_known (λ x. same_sail x s ≡ false) g f same zs apart_from in
        rw e (λ i. g (sym one i) ∷ rest_same i)
    by false e rest =
        let step : ◌≡◌ {A = ℕ} (1 + index_in zs s) (suc (index_in zs s)) = omega arith in
        let head : g z ≡ f z = same z (other s z e (same_sail z s) refl) in
        rw (e, step) (λ i. head i ∷ rest i)
