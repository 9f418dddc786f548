-- No finishing order has an empty group.
use Rattle.std.proofs.Common.{◌≡◌, ℕ, Bool, true, false, cond, not, List, [], ◌∷◌, ◌++◌, refl, ap}
use Rattle.std.proofs.Common.{filter, map, fold, nat_eq, length, Option}
use Rattle.std.specs.Prelude.{◌↔◌}
use Rattle.std.specs.List.{AllByRecursion, range_with_len}
use Rattle.std.proofs.lemmas.List.Elements.{All-from_recursion, recursion_from_All}
use borrow.Author.Tests.{eq-eqb}
use Rattle.regatta_terms.specs.Effects.{Act, Places, Strikes, AtEnd, TiedWith, AheadOf}
use Rattle.regatta_terms.specs.Rules.{RulesParts}
use Rattle.regatta_terms.specs.declared.sail.Sail.{Sail}
use Rattle.regatta_scores.specs.Order.{is_empty, in_group, stands_in, with_last, joined, with_ahead}
use Rattle.regatta_scores.specs.Order.{without, HasNoEmptyGroup}
use Rattle.regatta_scores.specs.CorrectedTimes.{CorrectedTime, times_behind}
use Rattle.regatta_scores.specs.CorrectedTimes.{order_of_times, is_lower, is_later, group_time}
use Rattle.regatta_scores.specs.CorrectedTimes.{lower_groups, equal_boats, later_groups, with_time}
use Rattle.regatta_scores.specs.Journal.{same_sail, order_after, acts, lasting_times}
use Rattle.regatta_scores.specs.RaceLaws.{OrdersHaveNoEmptyGroup}
use Rattle.regatta_scores.proofs.Members.{all_passed}

abbrev HasBoats : {B : Type 0} → List B → Type 0
HasBoats group = is_empty group ≡ false

pushed : {B : Type 0} (group : List B) (boat : B) → HasBoats (group ++ boat ∷ [])
pushed [] boat = refl
pushed (first ∷ group) boat = refl

-- ---- each change of an order, group by group

module _ {B : Type 0} (same : B → B → Bool) where
  in_last : (order : List (List B)) (boat : B) → AllByRecursion HasBoats order →
      AllByRecursion HasBoats (with_last same order boat)
  in_last [] boat each = (refl, tt)
  in_last (group ∷ groups) boat each = (each.0, in_last groups boat each.1)

  in_joined : (order : List (List B)) (boat other : B) → AllByRecursion HasBoats order →
      AllByRecursion HasBoats (joined same order boat other)
  in_joined [] boat other each = tt
  in_joined (group ∷ groups) boat other each = (
    by (in_group same other group),
    in_joined groups boat other each.1,
  )
    where
      by : (t : Bool) → HasBoats (cond t (group ++ boat ∷ []) group)
      by true = pushed group boat
      by false = each.0

  in_ahead : (order : List (List B)) (boat other : B) → AllByRecursion HasBoats order →
      AllByRecursion HasBoats (with_ahead same order boat other)
  in_ahead [] boat other each = tt
  in_ahead (group ∷ groups) boat other each =
      by (in_group same other group) (in_ahead groups boat other each.1)
    where
      by : (t : Bool) → AllByRecursion HasBoats (with_ahead same groups boat other) →
          AllByRecursion HasBoats
          (cond t ((boat ∷ []) ∷ group ∷ []) (group ∷ []) ++ with_ahead same groups boat other)
      by true rest = (refl, (each.0, rest))
      by false rest = (each.0, rest)

  with_boats : (groups : List (List B)) →
      AllByRecursion HasBoats (filter (λ group. not (is_empty group)) groups)
  with_boats [] = tt
  with_boats ([] ∷ groups) = with_boats groups
  with_boats ((first ∷ group) ∷ groups) = (refl, with_boats groups)

  pub last_has_none : (order : List (List B)) (boat : B) → HasNoEmptyGroup order →
      HasNoEmptyGroup (with_last same order boat)
  last_has_none order boat each =
      All-from_recursion HasBoats (with_last same order boat)
      (in_last order boat (recursion_from_All HasBoats order each))

  pub joined_has_none : (order : List (List B)) (boat other : B) → HasNoEmptyGroup order →
      HasNoEmptyGroup (joined same order boat other)
  joined_has_none order boat other each =
      All-from_recursion HasBoats (joined same order boat other)
      (in_joined order boat other (recursion_from_All HasBoats order each))

  pub ahead_has_none : (order : List (List B)) (boat other : B) → HasNoEmptyGroup order →
      HasNoEmptyGroup (with_ahead same order boat other)
  ahead_has_none order boat other each =
      All-from_recursion HasBoats (with_ahead same order boat other)
      (in_ahead order boat other (recursion_from_All HasBoats order each))

  pub without_has_none : (order : List (List B)) (boat : B) →
      HasNoEmptyGroup (without same order boat)
  without_has_none order boat =
      All-from_recursion HasBoats (without same order boat)
      (with_boats (map (λ group. filter (λ other. not (same other boat)) group) order))

module _ {B : Type 0} (time : B → Option ℕ) where
  between : (groups : List (List B)) (group : List B) (rest : List (List B)) →
      AllByRecursion HasBoats groups → HasBoats group → AllByRecursion HasBoats rest →
      AllByRecursion HasBoats (groups ++ group ∷ rest)
  between [] group rest each has more = (has, more)
  between (first ∷ groups) group rest each has more =
      (each.0, between groups group rest each.1 has more)

  pub timed_has_none : (order : List (List B)) (boat : B) (seconds : ℕ) → HasNoEmptyGroup order →
      HasNoEmptyGroup (with_time time order boat seconds)
  timed_has_none order boat seconds each =
      let full = recursion_from_All HasBoats order each in
      All-from_recursion HasBoats (with_time time order boat seconds)
      (between (lower_groups time order seconds) (equal_boats time order seconds ++ boat ∷ [])
      (later_groups time order seconds)
      (all_passed HasBoats (λ group. is_lower (group_time time group) seconds) order full)
      (pushed (equal_boats time order seconds) boat)
      (all_passed HasBoats (λ group. is_later (group_time time group) seconds) order full))

-- ---- the orders of a journal

after_has_none : (order : List (List Sail)) (act : Act) → HasNoEmptyGroup order →
    HasNoEmptyGroup (order_after order act)
after_has_none order (Places sail AtEnd) each = last_has_none same_sail order sail each
after_has_none order (Places sail (TiedWith other)) each =
    joined_has_none same_sail order sail other each
after_has_none order (Places sail (AheadOf other)) each =
    ahead_has_none same_sail order sail other each
after_has_none order (Strikes sail) each = without_has_none same_sail order sail
after_has_none order _ each = each

fold_has_none : (acts : List Act) (order : List (List Sail)) →
    HasNoEmptyGroup order → HasNoEmptyGroup (fold order_after order acts)
fold_has_none [] order each = each
fold_has_none (act ∷ acts) order each =
    fold_has_none acts (order_after order act) (after_has_none order act each)

named : {B C : Type 0} (name : B → C) (groups : List (List B)) → AllByRecursion HasBoats groups →
    AllByRecursion HasBoats (map (map name) groups)
named name [] each = tt
named name ([] ∷ groups) each = let empty = each.0 in cc
named name ((first ∷ group) ∷ groups) each = (refl, named name groups each.1)

times_have_none : (times : List (CorrectedTime Sail)) → HasNoEmptyGroup (order_of_times times)
times_have_none times =
    let groups = map (times_behind times) (range_with_len 0 (length times)) in
    All-from_recursion HasBoats (order_of_times times)
    (named (λ (time : CorrectedTime Sail). time.boat) (filter (λ group. not (is_empty group)) groups)
    (with_boats {B = CorrectedTime Sail} (λ a b. true) groups))

-- no order after the acts in a race has an empty group
pub order_has_none : (rules : RulesParts) (acts : List Act) →
    HasNoEmptyGroup
    (cond rules.handicap (order_of_times (lasting_times acts)) (fold order_after [] acts))
order_has_none rules acts = by rules.handicap
  where
    by : (b : Bool) → HasNoEmptyGroup
        (cond b (order_of_times (lasting_times acts)) (fold order_after [] acts))
    by true = times_have_none (lasting_times acts)
    by false = fold_has_none acts [] (All-from_recursion HasBoats [] tt)

pub orders_have_no_empty_group : OrdersHaveNoEmptyGroup
orders_have_no_empty_group rules journal race = order_has_none rules (acts journal race)

-- ---- an order without boats

first_stands : (first : ℕ) (group : List ℕ) (groups : List (List ℕ)) →
    stands_in nat_eq first ((first ∷ group) ∷ groups) ≡ true
first_stands first group groups = rw (eq-eqb first first refl) refl

nobody_by : (order : List (List ℕ)) → AllByRecursion HasBoats order →
    ((boat : ℕ) → stands_in nat_eq boat order ≡ false) → order ≡ []
nobody_by [] each none = refl
nobody_by ([] ∷ groups) each none = let empty = each.0 in cc
nobody_by ((first ∷ group) ∷ groups) each none =
    let stands = first_stands first group groups in
    let out = none first in
    cc

-- an order without empty groups has no boat if and only if it has no group
pub nobody_stands : (order : List (List ℕ)) → HasNoEmptyGroup order →
    (order ≡ []) ↔ ((boat : ℕ) → stands_in nat_eq boat order ≡ false)
nobody_stands order each = (
  λ none boat. ap (stands_in nat_eq boat) none,
  nobody_by order (recursion_from_All HasBoats order each),
)
