-- The finishing order by corrected times, by its groups.
use Rattle.std.proofs.Common.{◌≡◌, ℕ, zero, suc, ◌<◌, Bool, true, false, ◌||◌, List, [], ◌∷◌}
use Rattle.std.proofs.Common.{refl, ap, ◌∙◌, sym, arith, map, filter, nat_eq, AllPairs, Contains, length, get_or}
use Rattle.std.specs.Cmp.{both_ways}
use Rattle.std.proofs.lemmas.Bool.{or_left, or_right}
use Rattle.std.proofs.lemmas.List.Elements.{All-from_recursion, recursion_from_All}
use borrow.Author.Tests.{eqb-true, eq-eqb}
use Rattle.regatta_terms.specs.declared.sail.Sail.{Sail}
use Rattle.regatta_scores.specs.CorrectedTimes.{CorrectedTime, order_of_times}
use Rattle.regatta_scores.specs.AppendixA.{IsByTimes}
use Rattle.regatta_scores.proofs.SameLists.{contains_later}
use Rattle.regatta_scores.proofs.Sorting.{pairs_cons, pairs_first, pairs_rest}
use Rattle.regatta_scores.proofs.TiedTimes.{among, Rises, told_by_members, any_map, map_twice}
use Rattle.regatta_scores.proofs.TiedTimes.{those, groups_are, keys_of}

-- ---- members

pub among_contains : (s : ℕ) (xs : List ℕ) → among s xs ≡ true → Contains xs s
among_contains s [] e = cc
among_contains s (x ∷ xs) e = by (nat_eq x s) refl (among_contains s xs) e
  where
    by : (b : Bool) → nat_eq x s ≡ b → (among s xs ≡ true → Contains xs s) →
        (b || among s xs) ≡ true → Contains (x ∷ xs) s
    by true same rest e = (zero, omega arith, eqb-true x s same)
    by false other rest e = contains_later x xs s (rest e)

pub contains_among : (s : ℕ) (xs : List ℕ) → Contains xs s → among s xs ≡ true
contains_among s [] has = absurd (omega (arith, has.1))
contains_among s (x ∷ xs) has = by has.0 has.1 has.2 (contains_among s xs)
  where
    by : (k : ℕ) → k < length (x ∷ xs) → get_or (x ∷ xs) k s ≡ s →
        (Contains xs s → among s xs ≡ true) → among s (x ∷ xs) ≡ true
    by zero within at rest = or_left (nat_eq x s) (among s xs) (eq-eqb x s at)
    by (suc k) within at rest =
        or_right (nat_eq x s) (among s xs) (rest (k, omega (arith, within), at))

pub rises_from : (xs : List ℕ) → AllPairs (λ s t. s < t) xs → Rises xs
rises_from [] pairs = tt
rises_from (x ∷ xs) pairs = (
  recursion_from_All (λ y. x < y) xs (pairs_first (λ s t. s < t) x xs pairs),
  rises_from xs (pairs_rest (λ s t. s < t) x xs pairs),
)

pairs_from : (xs : List ℕ) → Rises xs → AllPairs (λ s t. s < t) xs
pairs_from [] rises = λ i j d apart within. absurd (omega (arith, apart, within))
pairs_from (x ∷ xs) rises =
    pairs_cons (λ s t. s < t) x xs (All-from_recursion (λ y. x < y) xs rises.0)
    (pairs_from xs rises.1)

-- ---- the order

pub same_by_times : (times : List (CorrectedTime Sail)) (one other : List (List Sail)) →
    IsByTimes times one → IsByTimes times other → one ≡ other
same_by_times times one other p q =
    let group = λ (s : ℕ). map (λ (t : CorrectedTime Sail). t.boat)
    (filter (λ t. nat_eq t.seconds s) times) in
    let same : p.seconds ≡ q.seconds =
    told_by_members p.seconds q.seconds (rises_from p.seconds p.rising)
    (rises_from q.seconds q.rising)
    (λ s. both_ways (among s p.seconds) (among s q.seconds)
    (λ e. contains_among s q.seconds ((q.each s).1 ((p.each s).0 (among_contains s p.seconds e))))
    (λ e. contains_among s p.seconds ((p.each s).1 ((q.each s).0 (among_contains s q.seconds e))))) in
    p.groups ∙ ap (map group) same ∙ sym q.groups

pub is_by_times : (times : List (CorrectedTime Sail)) → IsByTimes times (order_of_times times)
is_by_times times =
    let key = λ (t : CorrectedTime Sail). t.seconds in
    let keys = keys_of key times in
    let rs = keys.0 in
    let boats = map (λ (t : CorrectedTime Sail). t.boat) in
    let members : (s : ℕ) → among s rs ≡ among s (map key times) =
    λ s. keys.2 s ∙ sym (any_map key (λ x. nat_eq x s) times) in
    record {
      seconds = rs;
      rising = pairs_from rs keys.1;
      each = λ s. (
        λ has. among_contains s (map key times) (sym (members s) ∙ contains_among s rs has),
        λ has. among_contains s rs (members s ∙ contains_among s (map key times) has),
      );
      groups = ap (map boats) (groups_are key times rs keys.1 keys.2)
          ∙ map_twice boats (those key times) rs;
    }
