-- A boat that sailed as many laps as the most.
use Rattle.std.proofs.Common.{◌≡◌, ℕ, ◌+◌, ◌*◌, ◌<◌, ◌≤◌, ap, arith}
use Rattle.std.proofs.Math.Nat.{mul-le-mul_left}
use Rattle.regatta_times.specs.declared.fraction.Rounding.{Rounding}
use Rattle.regatta_times.specs.declared.fraction.Rounding.TheVariants.{HalfUp, HalfDown, Down, Up}
use Rattle.regatta_times.specs.Corrected.{over, at_most_six_digits, FullLapsChangeNothing}
use Rattle.regatta_times.specs.Fractions.{rounded, IsRounded}
use Rattle.regatta_times.proofs.OrderFacts.{one_rounding}
use Rattle.regatta_times.proofs.RoundingFacts.{rounded_is}

times_lt : (k a b : ℕ) → 0 < k → a < b → k * a < k * b
times_lt k a b some less =
    let next : a + 1 ≤ b = omega arith in
    let more : k * (a + 1) ≤ k * b = mul-le-mul_left k next in
    let parts : k * (a + 1) ≡ k * a + k = grind arith in omega arith

twice : (k a : ℕ) → k * (2 * a) ≡ 2 * (k * a)
twice k a = grind arith

twice_and : (k a b : ℕ) → k * (2 * a + b) ≡ 2 * (k * a) + k * b
twice_and k a b = grind arith

both : (k a b : ℕ) → k * (a + b) ≡ k * a + k * b
both k a b = grind arith

parts_of : (k d s : ℕ) → k * d * s ≡ k * (d * s)
parts_of k d s = grind arith

-- k times the parts, when a second has k times more of them
scaled : (rule : Rounding) (m d k s : ℕ) → 0 < k → IsRounded rule (over m d) s
    → IsRounded rule (over (k * m) (k * d)) s
scaled HalfUp m d k s some is =
    let low = mul-le-mul_left k is.0 in
    let high = times_lt k _ _ some is.1 in (
      omega (arith, low, twice k (d * s), twice_and k m d, parts_of k d s),
      omega (arith, high, twice k m, twice_and k (d * s) d, parts_of k d s),
    )
scaled HalfDown m d k s some is =
    let low = times_lt k _ _ some is.0 in
    let high = mul-le-mul_left k is.1 in (
      omega (arith, low, twice k (d * s), twice_and k m d, parts_of k d s),
      omega (arith, high, twice k m, twice_and k (d * s) d, parts_of k d s),
    )
scaled Down m d k s some is =
    let low = mul-le-mul_left k is.0 in
    let high = times_lt k _ _ some is.1 in
    (omega (arith, low, parts_of k d s), omega (arith, high, both k (d * s) d, parts_of k d s))
scaled Up m d k s some is =
    let low = mul-le-mul_left k is.0 in
    let high = times_lt k _ _ some is.1 in
    (omega (arith, low, parts_of k d s), omega (arith, high, both k m d, parts_of k d s))

product_some : (k d : ℕ) → 0 < k → 0 < d → 0 < k * d
product_some k d some more = omega (arith, times_lt k 0 d some more)

in_thousands : (e k : ℕ) → e * k * 1000 ≡ k * (e * 1000)
in_thousands e k = grind arith

same_seconds : (rule : Rounding) (m d k : ℕ) → 0 < d → 0 < k
    → rounded rule (over (k * m) (k * d)) ≡ rounded rule (over m d)
same_seconds rule m d k divides some = one_rounding rule (over (k * m) (k * d)) _ _
    (rounded_is rule (over (k * m) (k * d)) (product_some k d some divides))
    (scaled rule m d k _ some (rounded_is rule (over m d) divides))

pub full_laps_same : FullLapsChangeNothing
full_laps_same elapsed number laps rounding divides some =
    rw (in_thousands elapsed laps)
    (ap at_most_six_digits (same_seconds rounding (elapsed * 1000) number laps divides some))
