-- The series score by the scores that are excluded.
use Rattle.std.proofs.Common.{◌≡◌, ℕ, zero, suc, ◌+◌, ◌*◌, ◌≤◌, ◌<◌, max, Bool, true, false, cond, not, ◌⊎◌}
use Rattle.std.proofs.Common.{List, [], ◌∷◌, refl, ap, ◌∙◌, sym, arith, length, map, sum, count_by}
use Rattle.std.proofs.Common.{slice_get, Some}
use mathlib.Core.Logic.{inl, inr}
use Rattle.std.proofs.Math.Nat.{mul-le-mul_left}
use Rattle.std.proofs.lemmas.List.Sums.{sum_by-cons}
use Rattle.std.proofs.lemmas.List.Sorted.{IsPermutation-trans, IsPermutation-sym}
use Rattle.std.proofs.lemmas.Option.{same_Some}
use Rattle.regatta_scores.specs.declared.boats.Scored.{Scored}
use Rattle.regatta_scores.specs.Exclusions.{counting, excluded, net}
use Rattle.regatta_scores.specs.Ranking.{best_to_worst}
use Rattle.regatta_scores.specs.ExclusionLaws as law
use Rattle.regatta_scores.proofs.Counts.{count_cons}
use Rattle.regatta_scores.proofs.ExclusionCounts.{worst_are_excluded}
use Rattle.regatta_scores.proofs.FitTables.{sorted_one}
use Rattle.regatta_scores.proofs.Sorting.{counting_scores_rise}

-- ---- best to worst

pub excluded_arent_used : law.ExcludedArentUsed
excluded_arent_used a b moved =
    let one = counting_scores_rise a in
    let other = counting_scores_rise b in
    sorted_one (best_to_worst a) (best_to_worst b) one.0 other.0
    (IsPermutation-trans (best_to_worst a) (counting a.points a.excluded) (best_to_worst b)
    (IsPermutation-sym (counting a.points a.excluded) (best_to_worst a) one.1)
    (IsPermutation-trans (counting a.points a.excluded) (counting b.points b.excluded)
    (best_to_worst b) moved other.1))

-- ---- the total, one score more

abbrev all_points : List Scored → List ℕ
all_points scores = map (λ s. s.points) scores

total_cons : (x : ℕ) (xs : List ℕ) → sum (x ∷ xs) ≡ x + sum xs
total_cons x xs = sum_by-cons (λ n. n) x xs

-- a score that isn't excluded is in the total
counted_in : (scores : List Scored) (flags : List Bool) (i : ℕ) (s : Scored) →
    slice_get scores i ≡ Some s → slice_get flags i ≡ Some false →
    s.points ≤ net (all_points scores) flags
counted_in [] flags i s at kept = cc
counted_in (x ∷ xs) [] i s at kept = cc
counted_in (x ∷ xs) (true ∷ flags) zero s at kept = cc
counted_in (x ∷ xs) (false ∷ flags) zero s at kept =
    let same = ap (λ (t : Scored). t.points) (same_Some x s at) in
    omega (arith, same, total_cons x.points (counting (all_points xs) flags))
counted_in (x ∷ xs) (true ∷ flags) (suc i) s at kept = counted_in xs flags i s at kept
counted_in (x ∷ xs) (false ∷ flags) (suc i) s at kept =
    omega (
      arith,
      counted_in xs flags i s at kept,
      total_cons x.points (counting (all_points xs) flags),
    )

pub dnes_count : law.DnesCount
dnes_count d scores i s at dne =
    counted_in scores (excluded d scores) i s at ((worst_are_excluded d scores).no_dne i s at dne)

-- ---- a threshold between the excluded scores and the excludable ones that count

-- the worst of the excludable scores that count, or 0
abbrev worst_kept : List Scored → List Bool → ℕ
worst_kept (s ∷ scores) (flag ∷ flags) =
    cond s.dne (worst_kept scores flags)
    (cond flag (worst_kept scores flags) (max s.points (worst_kept scores flags)))
worst_kept _ _ = 0

kept_upto : (scores : List Scored) (flags : List Bool) (i : ℕ) (s : Scored) →
    slice_get scores i ≡ Some s → slice_get flags i ≡ Some false → s.dne ≡ false →
    s.points ≤ worst_kept scores flags
kept_upto [] flags i s at kept free = cc
kept_upto (x ∷ xs) [] i s at kept free = cc
kept_upto (x ∷ xs) (b ∷ flags) zero s at kept free =
    let is = same_Some x s at in
    let is_free : x.dne ≡ false = ap (λ (t : Scored). t.dne) is ∙ free in
    let is_kept : b ≡ false = same_Some b false kept in
    let same = ap (λ (t : Scored). t.points) is in
    rw (is_free, is_kept) (omega (arith, same))
kept_upto (x ∷ xs) (b ∷ flags) (suc i) s at kept free =
    by x.dne b (kept_upto xs flags i s at kept free)
  where
    by : (dne flag : Bool) → s.points ≤ worst_kept xs flags →
        s.points ≤ cond dne (worst_kept xs flags)
        (cond flag (worst_kept xs flags) (max x.points (worst_kept xs flags)))
    by true flag rest = rest
    by false true rest = rest
    by false false rest = omega (arith, rest)

upto_excluded : (scores : List Scored) (flags : List Bool) (top : ℕ) →
    ((i : ℕ) (s : Scored) → slice_get scores i ≡ Some s → slice_get flags i ≡ Some false →
    s.dne ≡ false → s.points ≤ top) → worst_kept scores flags ≤ top
upto_excluded [] flags top each = omega arith
upto_excluded (x ∷ xs) [] top each = omega arith
upto_excluded (x ∷ xs) (b ∷ flags) top each =
    by x.dne refl b refl (upto_excluded xs flags top
    (λ i s at kept free. each (suc i) s at kept free))
  where
    by : (dne : Bool) → x.dne ≡ dne → (flag : Bool) → b ≡ flag → worst_kept xs flags ≤ top →
        cond dne (worst_kept xs flags)
        (cond flag (worst_kept xs flags) (max x.points (worst_kept xs flags))) ≤ top
    by true e flag f rest = rest
    by false e true f rest = rest
    by false e false f rest = omega (arith, rest, each zero x refl (ap Some f) e)

-- ---- the exchange

times_more : (t n : ℕ) → t * (1 + n) ≡ t + t * n
times_more t n = omega arith

flags_more : (flag : Bool) (flags : List Bool) (t : ℕ) → t * count_by (λ b. b) (flag ∷ flags)
    ≡ cond flag t 0 + t * count_by (λ b. b) flags
flags_more true flags t =
    ap (λ n. t * n) (count_cons (λ b. b) true flags) ∙ times_more t (count_by (λ b. b) flags)
flags_more false flags t =
    let same : ◌≡◌ {A = ℕ} (0 + count_by (λ b. b) flags) (count_by (λ b. b) flags) = omega arith in
    let none : ◌≡◌ {A = ℕ} (t * count_by (λ b. b) flags) (0 + t * count_by (λ b. b) flags) =
    omega arith in
    ap (λ n. t * n) (count_cons (λ b. b) false flags ∙ same) ∙ none

net_more : (x : ℕ) (xs : List ℕ) (flag : Bool) (flags : List Bool) →
    net (x ∷ xs) (flag ∷ flags) ≡ cond flag 0 x + net xs flags
net_more x xs true flags = omega arith
net_more x xs false flags = total_cons x (counting xs flags)

-- if each score that the first flags exclude is worse than a threshold, and each that only the other
-- flags exclude is no worse, then the first total is no more, as far as equally many are excluded
exchanged : (t : ℕ) (scores : List Scored) (hers other : List Bool) →
    length hers ≡ length scores → length other ≡ length scores →
    ((i : ℕ) (s : Scored) → slice_get scores i ≡ Some s → slice_get hers i ≡ Some true →
    t ≤ s.points) →
    ((i : ℕ) (s : Scored) → slice_get scores i ≡ Some s → slice_get hers i ≡ Some false →
    slice_get other i ≡ Some true → s.points ≤ t) →
    net (all_points scores) hers + t * count_by (λ b. b) hers
    ≤ net (all_points scores) other + t * count_by (λ b. b) other
exchanged t [] hers other e f above below = rw (sym (no_flags hers e), sym (no_flags other f)) (omega arith)
  where
    no_flags : (flags : List Bool) → length flags ≡ 0 → [] ≡ flags
    no_flags [] e = refl
    no_flags (b ∷ flags) e = absurd (omega (arith, e))
exchanged t (x ∷ xs) [] other e f above below = absurd (omega (arith, e))
exchanged t (x ∷ xs) (a ∷ hers) [] e f above below = absurd (omega (arith, f))
exchanged t (x ∷ xs) (a ∷ hers) (b ∷ other) e f above below =
    by a refl b refl (exchanged t xs hers other (omega (arith, e)) (omega (arith, f))
    (λ i s at on. above (suc i) s at on) (λ i s at off on. below (suc i) s at off on))
  where
    by : (c : Bool) → a ≡ c → (d : Bool) → b ≡ d →
        net (all_points xs) hers + t * count_by (λ z. z) hers
        ≤ net (all_points xs) other + t * count_by (λ z. z) other →
        net (all_points (x ∷ xs)) (c ∷ hers) + t * count_by (λ z. z) (c ∷ hers)
        ≤ net (all_points (x ∷ xs)) (d ∷ other) + t * count_by (λ z. z) (d ∷ other)
    by true is_c true is_d rest =
        omega (
          arith,
          rest,
          net_more x.points (all_points xs) true hers,
          net_more x.points (all_points xs) true other,
          flags_more true hers t,
          flags_more true other t,
        )
    by true is_c false is_d rest =
        omega (
          arith,
          rest,
          above zero x refl (ap Some is_c),
          net_more x.points (all_points xs) true hers,
          net_more x.points (all_points xs) false other,
          flags_more true hers t,
          flags_more false other t,
        )
    by false is_c true is_d rest =
        omega (
          arith,
          rest,
          below zero x refl (ap Some is_c) (ap Some is_d),
          net_more x.points (all_points xs) false hers,
          net_more x.points (all_points xs) true other,
          flags_more false hers t,
          flags_more true other t,
        )
    by false is_c false is_d rest =
        omega (
          arith,
          rest,
          net_more x.points (all_points xs) false hers,
          net_more x.points (all_points xs) false other,
          flags_more false hers t,
          flags_more false other t,
        )

-- ---- any permitted choice

not_more : (scores : List Scored) (flags : List Bool) → length flags ≡ length scores →
    ((i : ℕ) (s : Scored) → slice_get scores i ≡ Some s → s.dne ≡ true →
    slice_get flags i ≡ Some false) →
    count_by (λ b. b) flags ≤ count_by (λ s. not s.dne) scores
not_more [] [] e free = omega arith
not_more [] (b ∷ flags) e free = absurd (omega (arith, e))
not_more (x ∷ xs) [] e free = absurd (omega (arith, e))
not_more (x ∷ xs) (b ∷ flags) e free =
    by x.dne refl b refl (not_more xs flags (omega (arith, e))
    (λ i s at dne. free (suc i) s at dne))
  where
    here : (dne flag : Bool) → x.dne ≡ dne → b ≡ flag → (dne ≡ true → flag ≡ false) →
        cond b 1 0 ≤ cond (not x.dne) 1 0
    here true true d f kept = let e : true ≡ false = kept refl in cc
    here true false d f kept = rw f (omega arith)
    here false true d f kept = rw (d, f) (omega arith)
    here false false d f kept = rw f (omega arith)

    by : (dne : Bool) → x.dne ≡ dne → (flag : Bool) → b ≡ flag →
        count_by (λ z. z) flags ≤ count_by (λ s. not s.dne) xs →
        count_by (λ z. z) (b ∷ flags) ≤ count_by (λ s. not s.dne) (x ∷ xs)
    by dne d flag f rest =
        let one = here dne flag d f
        (λ e. sym f ∙ same_Some b false (free zero x refl (d ∙ e))) in
        omega (
          arith,
          rest,
          one,
          count_cons (λ z. z) b flags,
          count_cons (λ s. not s.dne) x xs,
        )

not_dne : (dne : Bool) → (dne ≡ true → false ≡ true) → dne ≡ false
not_dne true clash = sym (clash refl)
not_dne false clash = refl

no_worse : (p q i j : ℕ) → (p < q) ⊎ ((p ≡ q) × (i < j)) → p ≤ q
no_worse p q i j (inl lower) = omega (arith, lower)
no_worse p q i j (inr same) = omega (arith, same.0)

pub no_choice_is_better : law.NoChoiceIsBetter
no_choice_is_better d scores flags permitted =
    let hers = excluded d scores in
    let worst = worst_are_excluded d scores in
    let t = worst_kept scores hers in
    let ours = count_by (λ b. b) hers in
    let theirs = count_by (λ b. b) flags in
    let free : (i : ℕ) (s : Scored) → slice_get scores i ≡ Some s →
    slice_get hers i ≡ Some false → slice_get flags i ≡ Some true → s.dne ≡ false =
    λ i s at off on. not_dne s.dne (λ dne. (let clash : Some false ≡ Some true =
    sym (permitted.no_dne i s at dne) ∙ on in same_Some false true clash)) in
    let above : (i : ℕ) (s : Scored) → slice_get scores i ≡ Some s →
    slice_get hers i ≡ Some true → t ≤ s.points =
    λ i s at on. upto_excluded scores hers s.points (λ j other at_j kept is_free.
    no_worse other.points s.points i j (worst.worst i j s other at at_j on kept is_free)) in
    let exchange = exchanged t scores hers flags worst.one_for_each permitted.one_for_each above
    (λ i s at off on. kept_upto scores hers i s at off (free i s at off on)) in
    let few : theirs ≤ ours = omega (
      arith,
      worst.as_many,
      permitted.few,
      not_more scores flags permitted.one_for_each permitted.no_dne,
    ) in
    let least = mul-le-mul_left t few in
    omega (arith, exchange, least)
