-- A change of an order changes one group, since a boat is in it once.
use Rattle.std.proofs.Common.{◌≡◌, ℕ, zero, suc, ◌+◌, ◌<◌, ◌≤◌, Bool, true, false, cond, not, List}
use Rattle.std.proofs.Common.{[], ◌∷◌, ◌++◌, refl, ap, ◌∙◌, arith, length, get_or, take, drop}
use Rattle.std.proofs.Common.{nat_eq, nat_lt}
use borrow.Author.Tests.{ltb-true, ltb-false}
use Rattle.std.specs.List.{AllByRecursion}
use Rattle.std.proofs.lemmas.List.Elements.{recursion_from_All}
use Rattle.std.proofs.lemmas.Bool.{false_from_ne_true}
use Rattle.regatta_scores.proofs.TimedOrders.{group_stays}
use Rattle.regatta_scores.specs.Order.{is_empty, in_group, stands_in, times_placed, HasNoEmptyGroup}
use Rattle.regatta_scores.specs.Order.{joined, with_ahead, without}
use Rattle.regatta_scores.proofs.Pigeonhole.{times, others}
use Rattle.regatta_scores.proofs.Ranked.{apart_eq_back}
use Rattle.regatta_scores.proofs.Sheets.{placed_cons, in_group_counts}

-- a boat that doesn't occur in a group isn't in it
not_in : (g : List ℕ) (b : ℕ) → times g b ≡ 0 → in_group nat_eq b g ≡ false
not_in g b none = false_from_ne_true _ (λ e. omega (arith, in_group_counts g b e, none))

-- ---- groups without the boat stay

joined_out : (order : List (List ℕ)) (boat other : ℕ) → times_placed nat_eq order other ≡ 0 →
    joined nat_eq order boat other ≡ order
joined_out [] boat other none = refl
joined_out (g ∷ gs) boat other none =
    let sum = placed_cons g gs other in
    let out = not_in g other (omega (arith, sum, none)) in
    let rest = joined_out gs boat other (omega (arith, sum, none)) in
    λ i. cond (out i) (g ++ boat ∷ []) g ∷ rest i

ahead_out : (order : List (List ℕ)) (boat other : ℕ) → times_placed nat_eq order other ≡ 0 →
    with_ahead nat_eq order boat other ≡ order
ahead_out [] boat other none = refl
ahead_out (g ∷ gs) boat other none =
    let sum = placed_cons g gs other in
    let out = not_in g other (omega (arith, sum, none)) in
    let rest = ahead_out gs boat other (omega (arith, sum, none)) in
    λ i. cond (out i) ((boat ∷ []) ∷ g ∷ []) (g ∷ []) ++ rest i

-- the groups of one boat fewer, from the first on
without_cons : (g : List ℕ) (gs : List (List ℕ)) (boat : ℕ) → without nat_eq (g ∷ gs) boat
    ≡ cond (not (is_empty (others boat g))) (others boat g ∷ []) [] ++ without nat_eq gs boat
without_cons g gs boat = by (not (is_empty (others boat g)))
  where
    by : (t : Bool) → cond t (others boat g ∷ without nat_eq gs boat) (without nat_eq gs boat)
        ≡ cond t (others boat g ∷ []) [] ++ without nat_eq gs boat
    by true = refl
    by false = refl

stays_whole : (g : List ℕ) (gs : List (List ℕ)) (boat : ℕ) → is_empty g ≡ false →
    in_group nat_eq boat g ≡ false → without nat_eq (g ∷ gs) boat ≡ g ∷ without nat_eq gs boat
stays_whole g gs boat some out =
    let same = group_stays nat_eq boat g out in
    without_cons g gs boat
    ∙ (λ i. cond (not (is_empty (same i))) (same i ∷ []) [] ++ without nat_eq gs boat)
    ∙ ap (λ t. cond (not t) (g ∷ []) [] ++ without nat_eq gs boat) some

without_out : (order : List (List ℕ)) (boat : ℕ) →
    AllByRecursion (λ g. is_empty g ≡ false) order → times_placed nat_eq order boat ≡ 0 →
    without nat_eq order boat ≡ order
without_out [] boat each none = refl
without_out (g ∷ gs) boat each none =
    let sum = placed_cons g gs boat in
    let out = not_in g boat (omega (arith, sum, none)) in
    stays_whole g gs boat each.0 out
    ∙ ap (λ hs. g ∷ hs) (without_out gs boat each.1 (omega (arith, sum, none)))

-- ---- the one group with the boat

-- no group before this one has the boat, and this one does
record IsFirst (order : List (List ℕ)) (boat at : ℕ) : Type 0 where
  before : (k : ℕ) → k < at → in_group nat_eq boat (get_or order k []) ≡ false
  here : in_group nat_eq boat (get_or order at []) ≡ true
  within : at < length order

next_first : (g : List ℕ) (gs : List (List ℕ)) (boat at : ℕ) → IsFirst (g ∷ gs) boat (suc at) →
    IsFirst gs boat at
next_first g gs boat at is = record {
  before = λ k h. is.before (suc k) (omega (arith, h));
  here = is.here;
  within = (let inside = is.within in omega (arith, inside));
}

-- the groups after it don't have the boat
none_after : (g : List ℕ) (gs : List (List ℕ)) (boat : ℕ) → in_group nat_eq boat g ≡ true →
    times_placed nat_eq (g ∷ gs) boat ≤ 1 → times_placed nat_eq gs boat ≡ 0
none_after g gs boat here once =
    omega (arith, in_group_counts g boat here, placed_cons g gs boat, once)

once_after : (g : List ℕ) (gs : List (List ℕ)) (boat : ℕ) →
    times_placed nat_eq (g ∷ gs) boat ≤ 1 → times_placed nat_eq gs boat ≤ 1
once_after g gs boat once = omega (arith, placed_cons g gs boat, once)

ahead_at : (order : List (List ℕ)) (boat other at : ℕ) → IsFirst order other at →
    times_placed nat_eq order other ≤ 1 →
    with_ahead nat_eq order boat other ≡ (take at order ++ (boat ∷ []) ∷ []) ++ drop at order
ahead_at [] boat other at is once = (let inside = is.within in absurd (omega (arith, inside)))
ahead_at (g ∷ gs) boat other zero is once =
    let rest = ahead_out gs boat other (none_after g gs other is.here once) in
    λ i. cond (is.here i) ((boat ∷ []) ∷ g ∷ []) (g ∷ []) ++ rest i
ahead_at (g ∷ gs) boat other (suc at) is once =
    let apart = is.before 0 (omega arith) in
    let rest = ahead_at gs boat other at (next_first g gs other at is)
    (once_after g gs other once) in
    λ i. cond (apart i) ((boat ∷ []) ∷ g ∷ []) (g ∷ []) ++ rest i

joined_at : (order : List (List ℕ)) (boat other at : ℕ) → IsFirst order other at →
    times_placed nat_eq order other ≤ 1 → joined nat_eq order boat other
    ≡ (take at order ++ (get_or order at [] ++ boat ∷ []) ∷ []) ++ drop (at + 1) order
joined_at [] boat other at is once = (let inside = is.within in absurd (omega (arith, inside)))
joined_at (g ∷ gs) boat other zero is once =
    let rest = joined_out gs boat other (none_after g gs other is.here once) in
    λ i. cond (is.here i) (g ++ boat ∷ []) g ∷ rest i
joined_at (g ∷ gs) boat other (suc at) is once =
    let apart = is.before 0 (omega arith) in
    let rest = joined_at gs boat other at (next_first g gs other at is)
    (once_after g gs other once) in
    let next : suc (at + 1) ≡ suc at + 1 = omega arith in
    (λ i. cond (apart i) (g ++ boat ∷ []) g ∷ rest i)
    ∙ ap (λ n. (take (suc at) (g ∷ gs) ++ (get_or gs at [] ++ boat ∷ []) ∷ []) ++ drop n (g ∷ gs))
    next

without_at : (order : List (List ℕ)) (boat at : ℕ) → IsFirst order boat at →
    times_placed nat_eq order boat ≤ 1 → AllByRecursion (λ g. is_empty g ≡ false) order →
    without nat_eq order boat
    ≡ (take at order ++ cond (not (is_empty (others boat (get_or order at []))))
    (others boat (get_or order at []) ∷ []) []) ++ drop (at + 1) order
without_at [] boat at is once each = (let inside = is.within in absurd (omega (arith, inside)))
without_at (g ∷ gs) boat zero is once each =
    without_cons g gs boat
    ∙ ap (λ hs. cond (not (is_empty (others boat g))) (others boat g ∷ []) [] ++ hs)
    (without_out gs boat each.1 (none_after g gs boat is.here once))
without_at (g ∷ gs) boat (suc at) is once each =
    let rest = without_at gs boat at (next_first g gs boat at is) (once_after g gs boat once)
    each.1 in
    let next : suc (at + 1) ≡ suc at + 1 = omega arith in
    let hers = others boat (get_or gs at []) in
    stays_whole g gs boat each.0 (is.before 0 (omega arith)) ∙ ap (λ hs. g ∷ hs) rest
    ∙ ap (λ n. (take (suc at) (g ∷ gs) ++ cond (not (is_empty hers)) (hers ∷ []) [])
    ++ drop n (g ∷ gs)) next

-- ---- a boat that is in the order has a group

some_group : (order : List (List ℕ)) (boat : ℕ) → stands_in nat_eq boat order ≡ true →
    ((k : ℕ) → k < length order → in_group nat_eq boat (get_or order k []) ≡ false) → true ≡ false
some_group [] boat stands none = cc
some_group (g ∷ gs) boat stands none =
    let first = none 0 (omega arith) in
    let left : stands_in nat_eq boat gs ≡ true = rw first at stands in
    some_group gs boat left (λ k h. none (suc k) (omega (arith, h)))

pub no_boats : (group : List ℕ) → nat_eq (length group) 0 ≡ is_empty group
no_boats [] = refl
no_boats (boat ∷ group) = apart_eq_back (length (boat ∷ group)) 0 (omega arith)

-- what is found is where she stands
pub stands_first : (order : List (List ℕ)) (boat at : ℕ) → stands_in nat_eq boat order ≡ true →
    at ≤ length order → ((k : ℕ) → k < at → in_group nat_eq boat (get_or order k []) ≡ false) →
    (at < length order → in_group nat_eq boat (get_or order at []) ≡ true) → at < length order
stands_first order boat at stands bound before here = by (nat_lt at (length order)) refl
  where
    by : (t : Bool) → nat_lt at (length order) ≡ t → at < length order
    by true e = ltb-true at (length order) e
    by false e =
        let past = ltb-false at (length order) e in
        let wrong = some_group order boat stands (λ k h. before k (omega (arith, h, past))) in cc

module _ (order : List (List ℕ)) (boat other at : ℕ)
    (once : times_placed nat_eq order other ≤ 1) (within : at < length order)
    (before : (k : ℕ) → k < at → in_group nat_eq other (get_or order k []) ≡ false)
    (here : at < length order → in_group nat_eq other (get_or order at []) ≡ true) where
  first_is : IsFirst order other at
  first_is = record { before = before; here = here within; within = within }

  pub ahead_is : with_ahead nat_eq order boat other
      ≡ (take at order ++ (boat ∷ []) ∷ []) ++ drop at order
  ahead_is = ahead_at order boat other at first_is once

  pub joined_is : joined nat_eq order boat other
      ≡ (take at order ++ (get_or order at [] ++ boat ∷ []) ∷ []) ++ drop (at + 1) order
  joined_is = joined_at order boat other at first_is once

  pub without_is : HasNoEmptyGroup order → without nat_eq order other
      ≡ (take at order ++ cond (not (is_empty (others other (get_or order at []))))
      (others other (get_or order at []) ∷ []) []) ++ drop (at + 1) order
  without_is no_empty =
      without_at order other at first_is once
      (recursion_from_All (λ g. is_empty g ≡ false) order no_empty)
