-- The three cases in which one boat beats another.
use Rattle.std.proofs.Common.{◌≡◌, ℕ, zero, suc, ◌<◌, ◌≤◌, Bool, true, false, cond, List, [], ◌∷◌}
use Rattle.std.proofs.Common.{refl, ap, ◌∙◌, sym, arith, length, take, sum_by, slice_index, nat_lt}
use Rattle.std.proofs.Common.{nat_cmp, ◌==◌, reverse, All}
use mathlib.Core.Logic.{inl, inr}
use Rattle.std.specs.Ordering.{ordering_then, is_lt}
use Rattle.std.specs.declared.cmp.Ordering.{Ordering}
use Rattle.std.specs.declared.cmp.Ordering.TheVariants.{Less, Equal, Greater}
use Rattle.std.specs.Cmp.{tied_itself, nat_cmp_total}
use Rattle.std.specs.Cmp.Lexicographic.{slice_cmp, nat_list_cmp_total}
use Rattle.std.specs.FinMap.{nat_cmp-IsAntisymmetric, slice_cmp-IsAntisymmetric}
use Rattle.std.proofs.lemmas.List.{length-reverse}
use Rattle.std.proofs.lemmas.List.Sums.{sum_by-cons}
use Rattle.std.proofs.lemmas.List.Sorted.{sum_by-IsPermutation, All-permutation}
use borrow.Author.Tests.{ltb-true, lt-ltb}
use Rattle.std.proofs.lemmas.List.Elements.{All-cons, All-tail}
use Rattle.regatta_scores.specs.Exclusions.{counting}
use Rattle.regatta_scores.specs.Ranking.{BoatScores, net, best_to_worst, beats}
use Rattle.regatta_scores.specs.RankLaws.{IsLowerAtFirst, IsBetter, BeatsInThreeCases}
use Rattle.regatta_scores.proofs.Sorting.{rising_permutes}
use Rattle.regatta_scores.proofs.Ties.{Less-is}

-- ---- comparisons of numbers

less_is : (x y : ℕ) → nat_cmp x y ≡ Less → x < y
less_is x y e = by (nat_lt x y) refl e
  where
    by : (b : Bool) → nat_lt x y ≡ b → cond b Less (cond (x == y) Equal Greater) ≡ Less → x < y
    by true f e = ltb-true x y f
    by false f e = other (x == y) e
      where
        other : (b : Bool) → cond b Equal Greater ≡ Less → x < y
        other true e = cc
        other false e = cc

pub is_less : (x y : ℕ) → x < y → nat_cmp x y ≡ Less
is_less x y h = rw (lt-ltb x y h) refl

-- ---- comparisons of lists

pub then_lower : (r s : Ordering) → r ≡ Equal → s ≡ Less → ordering_then r s ≡ Less
then_lower r s e f = rw e f

lower_at : (xs ys : List ℕ) (k : ℕ) → k < length xs → k < length ys → take k xs ≡ take k ys →
    slice_index xs k < slice_index ys k → slice_cmp nat_cmp xs ys ≡ Less
lower_at [] ys k in_first in_second same lower = absurd (omega (arith, in_first))
lower_at (x ∷ xs) [] k in_first in_second same lower = absurd (omega (arith, in_second))
lower_at (x ∷ xs) (y ∷ ys) zero in_first in_second same lower =
    ap (λ r. ordering_then r (slice_cmp nat_cmp xs ys)) (is_less x y lower)
lower_at (x ∷ xs) (y ∷ ys) (suc k) in_first in_second same lower =
    let heads : x ≡ y = ap (λ zs. slice_index zs 0) same in
    let tails : take k xs ≡ take k ys = ap tail same in
    then_lower (nat_cmp x y) (slice_cmp nat_cmp xs ys)
    (ap (nat_cmp x) (sym heads) ∙ tied_itself nat_cmp_total x)
    (lower_at xs ys k (omega (arith, in_first)) (omega (arith, in_second)) tails lower)
  where
    tail : List ℕ → List ℕ
    tail [] = []
    tail (z ∷ zs) = zs

at_next : (x y : ℕ) (xs ys : List ℕ) → x ≡ y → IsLowerAtFirst xs ys →
    IsLowerAtFirst (x ∷ xs) (y ∷ ys)
at_next x y xs ys e rest =
    record {
      at = suc rest.at;
      in_first = omega (arith, rest.in_first);
      in_second = omega (arith, rest.in_second);
      same = λ i. e i ∷ rest.same i;
      lower = rest.lower;
    }

-- if two lists have the same sum of weights, and each weight of the second is above zero, the first
-- isn't a proper beginning of the second
first_lower_by : (w : ℕ → ℕ) (x y : ℕ) (xs ys : List ℕ) (r : Ordering) →
    All (λ z. 1 ≤ w z) (y ∷ ys) → sum_by w (x ∷ xs) ≡ sum_by w (y ∷ ys) → nat_cmp x y ≡ r →
    ordering_then r (slice_cmp nat_cmp xs ys) ≡ Less →
    (All (λ z. 1 ≤ w z) ys → sum_by w xs ≡ sum_by w ys → slice_cmp nat_cmp xs ys ≡ Less →
    IsLowerAtFirst xs ys) → IsLowerAtFirst (x ∷ xs) (y ∷ ys)
first_lower_by w x y xs ys Less positive sums here e rest =
    record {
      at = zero;
      in_first = omega arith;
      in_second = omega arith;
      same = refl;
      lower = less_is x y here;
    }
first_lower_by w x y xs ys Equal positive sums here e rest =
    let equal : x ≡ y = nat_cmp-IsAntisymmetric x y here in
    let weights = ap w equal in
    at_next x y xs ys equal (rest (All-tail (λ z. 1 ≤ w z) y ys positive)
    (omega (arith, sums, weights, sum_by-cons w x xs, sum_by-cons w y ys)) e)
first_lower_by w x y xs ys Greater positive sums here e rest = cc

first_lower : (w : ℕ → ℕ) (xs ys : List ℕ) → All (λ y. 1 ≤ w y) ys → sum_by w xs ≡ sum_by w ys →
    slice_cmp nat_cmp xs ys ≡ Less → IsLowerAtFirst xs ys
first_lower w [] [] positive sums e = cc
first_lower w [] (y ∷ ys) positive sums e = let here : 1 ≤ w y = positive zero y (omega arith) in
    absurd (omega (arith, sums, sum_by-cons w y ys, here))
first_lower w (x ∷ xs) [] positive sums e = cc
first_lower w (x ∷ xs) (y ∷ ys) positive sums e =
    first_lower_by w x y xs ys (nat_cmp x y) positive sums refl e (first_lower w xs ys)

-- ---- the lists of two boats

counting_positive : (points : List ℕ) (flags : List Bool) → All (λ p. 10 ≤ p) points →
    All (λ p. 1 ≤ p) (counting points flags)
counting_positive [] flags each = λ k d h. absurd (omega (arith, h))
counting_positive (x ∷ xs) [] each = λ k d h. absurd (omega (arith, h))
counting_positive (x ∷ xs) (true ∷ flags) each =
    counting_positive xs flags (All-tail (λ p. 10 ≤ p) x xs each)
counting_positive (x ∷ xs) (false ∷ flags) each =
    let here : 10 ≤ x = each zero x (omega arith) in
    All-cons (λ p. 1 ≤ p) x (counting xs flags) (omega (arith, here))
    (counting_positive xs flags (All-tail (λ p. 10 ≤ p) x xs each))

best_sum : (a : BoatScores) → sum_by (λ p. p) (best_to_worst a) ≡ net a
best_sum a =
    sum_by-IsPermutation (λ p. p) (counting a.points a.excluded) (best_to_worst a)
    (rising_permutes (counting a.points a.excluded))

best_positive : (a : BoatScores) → All (λ p. 10 ≤ p) a.points → All (λ p. 1 ≤ p) (best_to_worst a)
best_positive a each =
    All-permutation (λ p. 1 ≤ p) (counting a.points a.excluded) (best_to_worst a)
    (rising_permutes (counting a.points a.excluded)) (counting_positive a.points a.excluded each)

ones : (xs : List ℕ) → sum_by (λ (p : ℕ). 1) xs ≡ length xs
ones [] = refl
ones (x ∷ xs) = omega (arith, sum_by-cons (λ (p : ℕ). 1) x xs, ones xs)

-- ---- the law

better_by : (a b : BoatScores) → All (λ p. 10 ≤ p) b.points → length a.points ≡ length b.points →
    (r s : Ordering) → nat_cmp (net a) (net b) ≡ r →
    slice_cmp nat_cmp (best_to_worst a) (best_to_worst b) ≡ s →
    is_lt (ordering_then r (ordering_then s
    (slice_cmp nat_cmp (reverse a.points) (reverse b.points)))) ≡ true → IsBetter a b
better_by a b high long Less s e f h = inl (less_is (net a) (net b) e)
better_by a b high long Equal Less e f h =
    let equal = nat_cmp-IsAntisymmetric (net a) (net b) e in
    inr (inl (
      equal,
      first_lower (λ p. p) (best_to_worst a) (best_to_worst b) (best_positive b high)
          (best_sum a ∙ equal ∙ sym (best_sum b)) f,
    ))
better_by a b high long Equal Equal e f h =
    let equal = nat_cmp-IsAntisymmetric (net a) (net b) e in
    let same =
    slice_cmp-IsAntisymmetric nat_cmp-IsAntisymmetric (best_to_worst a) (best_to_worst b) f in
    let lengths : sum_by (λ (p : ℕ). 1) (reverse a.points)
    ≡ sum_by (λ (p : ℕ). 1) (reverse b.points) =
    ones (reverse a.points) ∙ length-reverse a.points ∙ long ∙ sym (length-reverse b.points)
    ∙ sym (ones (reverse b.points)) in
    inr (inr (
      equal,
      same,
      first_lower (λ p. 1) (reverse a.points) (reverse b.points)
          (λ k d within. omega arith) lengths
          (Less-is (slice_cmp nat_cmp (reverse a.points) (reverse b.points)) h),
    ))
better_by a b high long Equal Greater e f h = cc
better_by a b high long Greater s e f h = cc

beats_by : (a b : BoatScores) → IsBetter a b → beats a b ≡ true
beats_by a b (inl lower) =
    ap (λ r. is_lt (ordering_then r
    (ordering_then (slice_cmp nat_cmp (best_to_worst a) (best_to_worst b))
    (slice_cmp nat_cmp (reverse a.points) (reverse b.points))))) (is_less (net a) (net b) lower)
beats_by a b (inr (inl case)) =
    let first = ap (nat_cmp (net a)) (sym case.0) ∙ tied_itself nat_cmp_total (net a) in
    let second =
    lower_at (best_to_worst a) (best_to_worst b) case.1.at case.1.in_first case.1.in_second
    case.1.same case.1.lower in
    λ i. is_lt (ordering_then (first i)
    (ordering_then (second i) (slice_cmp nat_cmp (reverse a.points) (reverse b.points))))
beats_by a b (inr (inr case)) =
    let first = ap (nat_cmp (net a)) (sym case.0) ∙ tied_itself nat_cmp_total (net a) in
    let second = ap (slice_cmp nat_cmp (best_to_worst a)) (sym case.1)
    ∙ tied_itself nat_list_cmp_total (best_to_worst a) in
    let third =
    lower_at (reverse a.points) (reverse b.points) case.2.at case.2.in_first case.2.in_second
    case.2.same case.2.lower in
    λ i. is_lt (ordering_then (first i) (ordering_then (second i) (third i)))

pub boats_are_beaten_in_three_cases : BeatsInThreeCases
boats_are_beaten_in_three_cases a b high_a high_b long = (
  better_by a b high_b long (nat_cmp (net a) (net b))
      (slice_cmp nat_cmp (best_to_worst a) (best_to_worst b)) refl refl,
  beats_by a b,
)
