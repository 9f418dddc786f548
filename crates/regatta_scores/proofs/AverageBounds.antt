-- The bounds of an average.
use Rattle.std.proofs.Common.{◌≡◌, ℕ, zero, suc, Bool, true, false, ◌+◌, ◌*◌, ◌/◌, ◌<◌, ◌≤◌, List}
use Rattle.std.proofs.Common.{[], ◌∷◌, refl, sym, subst, arith, length, All, cond, nat_eq, sum_by}
use Rattle.std.proofs.lemmas.List.Sums.{sum_by-cons}
use Rattle.std.proofs.Math.Nat.{le-div_iff_mul-le, div-lt_iff_lt-mul, mul_left_comm, mul-suc}
use Rattle.std.proofs.Math.Nat.{mul-div-le, lt-mul-div-succ}
use borrow.Author.Tests.{eqb-true}
use Rattle.regatta_scores.specs.declared.boats.RaceScore.{RaceScore}
use Rattle.regatta_scores.specs.RedressLaws.{counted, AveragesLieBetween, AveragesAreNearest}

-- the average of n points with sum s, to the nearest tenth, 0.05 upward (A9)
abbrev pub average : ℕ → ℕ → ℕ
average n s = (2 * s + n) / (2 * n)

-- the sum of her points in these races
abbrev pub total : List RaceScore → ℕ
total races = sum_by (λ score. score.points) races

-- if each of n points is at least `low`, their sum is at least n times `low`
pub total_least : (xs : List RaceScore) (low : ℕ) →
    All (λ score. low ≤ score.points) xs → low * length xs ≤ total xs
total_least [] low each = omega arith
total_least (x ∷ xs) low each =
    let here : low ≤ x.points = each zero x (omega arith) in
    let rest = total_least xs low (λ k d h. each (suc k) d (omega arith)) in
    let sum = sum_by-cons (λ (score : RaceScore). score.points) x xs in
    omega (arith, here, rest, sum, mul-suc low (length xs))

total_most : (xs : List RaceScore) (high : ℕ) →
    All (λ score. score.points ≤ high) xs → total xs ≤ high * length xs
total_most [] high each = omega arith
total_most (x ∷ xs) high each =
    let here : x.points ≤ high = each zero x (omega arith) in
    let rest = total_most xs high (λ k d h. each (suc k) d (omega arith)) in
    let sum = sum_by-cons (λ (score : RaceScore). score.points) x xs in
    omega (arith, here, rest, sum, mul-suc high (length xs))

pub average_least : (n s low : ℕ) → 0 < n → low * n ≤ s → low ≤ average n s
average_least n s low some least =
    let twice : low * (2 * n) ≡ 2 * (low * n) = mul_left_comm low 2 n in
    let positive : 0 < 2 * n = omega arith in
    (le-div_iff_mul-le positive).1 (omega (arith, twice))

average_most : (n s high : ℕ) → 0 < n → s ≤ high * n → average n s ≤ high
average_most n s high some greatest =
    let twice : high * (2 * n) ≡ 2 * (high * n) = mul_left_comm high 2 n in
    let over : suc high * (2 * n) ≡ high * (2 * n) + 2 * n = omega arith in
    let positive : 0 < 2 * n = omega arith in
    let below : (2 * s + n) / (2 * n) < suc high =
    (div-lt_iff_lt-mul positive).1 (omega (arith, twice, over)) in
    omega (arith, below)

average_by : (plain n s : ℕ) (b : Bool) → 0 < n → nat_eq n 0 ≡ b →
    cond b plain (average n s) ≡ average n s
average_by plain n s true some e = let zero_races = eqb-true n 0 e in
    absurd (omega (arith, zero_races))
average_by plain n s false some e = refl

-- an average is at most the highest of its points
pub average_small : (n s : ℕ) → 0 < n → s ≤ 65535 * n → (2 * s + n) / (2 * n) < 65536
average_small n s some small = (div-lt_iff_lt-mul (omega arith)).1 (omega arith)

pub averages_lie_between : AveragesLieBetween
averages_lie_between races plain low high some each =
    let n = length (counted races) in
    let least = total_least (counted races) low (λ k d h. (each k d h).0) in
    let greatest = total_most (counted races) high (λ k d h. (each k d h).1) in
    let same = average_by plain n (total (counted races)) (nat_eq n 0) some refl in
    let above = average_least n (total (counted races)) low some least in
    let below = average_most n (total (counted races)) high some greatest in
    (omega (arith, same, above), omega (arith, same, below))

nearest : (n s : ℕ) → 0 < n
    → (2 * n * average n s ≤ 2 * s + n) × (2 * s < 2 * n * average n s + n)
nearest n s some =
    let below = mul-div-le (2 * s + n) (2 * n) in
    let above : 2 * s + n < 2 * n * ((2 * s + n) / (2 * n) + 1) =
    lt-mul-div-succ (2 * s + n) (omega arith) in
    let more : 2 * n * ((2 * s + n) / (2 * n) + 1) ≡ 2 * n * ((2 * s + n) / (2 * n)) + 2 * n =
    omega arith in
    (omega (arith, below), omega (arith, above, more))

pub averages_are_nearest : AveragesAreNearest
averages_are_nearest races plain some =
    let n = length (counted races) in
    let s = total (counted races) in
    subst (λ (a : ℕ). (2 * n * a ≤ 2 * s + n) × (2 * s < 2 * n * a + n))
    (sym (average_by plain n s (nat_eq n 0) some refl)) (nearest n s some)
