-- A boat that took no longer is given no later time, and rounding has one answer.
use Rattle.std.proofs.Common.{◌≡◌, ℕ, ◌+◌, ◌*◌, ◌<◌, ◌≤◌, Bool, true, false, nat_le, Option}
use Rattle.std.proofs.Common.{Some, None, Ok, Err, IfOk, if◌then◌else◌, refl, sym, arith}
use Rattle.std.proofs.Math.Nat.{mul-le-mul_left, mul-le-mul_right}
use borrow.Author.Tests.{leb-true, leb-false}
use Rattle.regatta_times.specs.declared.fraction.Fraction.{Fraction}
use Rattle.regatta_times.specs.declared.fraction.Rounding.{Rounding}
use Rattle.regatta_times.specs.declared.fraction.Rounding.TheVariants.{HalfUp, HalfDown, Down, Up}
use Rattle.regatta_times.specs.declared.rating.Rating.{Rating}
use Rattle.regatta_times.specs.declared.rating.Rating.TheVariants.{TimeOnTime, Portsmouth}
use Rattle.regatta_times.specs.declared.rating.Rating.TheVariants.{TimeOnDistance, AddedOnDistance}
use Rattle.regatta_times.specs.declared.correcting.TimesFault.TheVariants.{Negative, TooLong}
use Rattle.regatta_times.specs.Corrected.{exact_time, in_seconds, corrected_time}
use Rattle.regatta_times.specs.Corrected.{NoLater, over}
use Rattle.regatta_times.specs.Fractions.{rounded, IsRounded, OneRounding}
use Rattle.regatta_times.specs.Laps.{LapCounts}
use Rattle.regatta_times.proofs.RoundingFacts.{rounded_is}

-- a second more is at least as many parts more
a_second_more : (d s t : ℕ) → t < s → d * t + d ≤ d * s
a_second_more d s t less =
    let next : t + 1 ≤ s = omega arith in
    let more : d * (t + 1) ≤ d * s = mul-le-mul_left d next in
    let parts : d * (t + 1) ≡ d * t + d = grind arith in omega arith

by_rule : (rule : Rounding) (n m d s t : ℕ) → IsRounded rule (over n d) s
    → IsRounded rule (over m d) t → n ≤ m → t < s → ⊥
by_rule HalfUp n m d s t first second below less =
    let more = a_second_more d s t less in omega (arith, first.0, first.1, second.0, second.1)
by_rule HalfDown n m d s t first second below less =
    let more = a_second_more d s t less in omega (arith, first.0, first.1, second.0, second.1)
by_rule Down n m d s t first second below less =
    let more = a_second_more d s t less in omega (arith, first.0, first.1, second.0, second.1)
by_rule Up n m d s t first second below less =
    let more = a_second_more d s t less in omega (arith, first.0, first.1, second.0, second.1)

cases : (s t : ℕ) (b : Bool) → b ≡ nat_le s t → (t < s → ⊥) → s ≤ t
cases s t true is no_more = leb-true s t (sym is)
cases s t false is no_more = absurd (no_more (leb-false s t (sym is)))

-- rounding by a rule has one answer
pub one_rounding : OneRounding
one_rounding rule time s t first second =
    let same : time.numerator ≤ time.numerator = omega arith in
    let below = cases s t _ refl (λ less. by_rule rule time.numerator time.numerator
    time.denominator s t first second same less) in
    let above = cases t s _ refl (λ less. by_rule rule time.numerator time.numerator
    time.denominator t s second first same less) in
    omega arith

rounded_kept : (rule : Rounding) (n m d : ℕ) → 0 < d → n ≤ m
    → rounded rule (over n d) ≤ rounded rule (over m d)
rounded_kept rule n m d divides below = cases _ _ _ refl (λ less. by_rule rule n m d _ _
    (rounded_is rule (over n d) divides) (rounded_is rule (over m d) divides) below less)

limited : (s t : ℕ) (b c : Bool) → s ≤ t
    → NoLater (if b then Ok s else Err TooLong) (if c then Ok t else Err TooLong)
limited s t false c below = tt
limited s t true false below = tt
limited s t true true below = below

kept : (rule : Rounding) (n m d : ℕ) → 0 < d → n ≤ m
    → NoLater (in_seconds rule (Ok (over n d))) (in_seconds rule (Ok (over m d)))
kept rule n m d divides below = limited _ _ _ _ (rounded_kept rule n m d divides below)

kept_in : (rule : Rounding) (n m d : ℕ) (b c : Bool) → 0 < d → n ≤ m
    → NoLater (in_seconds rule (if b then Err Negative else Ok (over n d)))
    (in_seconds rule (if c then Err Negative else Ok (over m d)))
kept_in rule n m d true c divides below = tt
kept_in rule n m d false true divides below = later_refused rule (over n d)
  where
    later_refused : (rule : Rounding) (time : Fraction)
        → NoLater (in_seconds rule (Ok time)) (Err Negative)
    later_refused rule time = by _
      where
        by : (b : Bool) → NoLater (if b then Ok (rounded rule time) else Err TooLong) (Err Negative)
        by true = tt
        by false = tt
kept_in rule n m d false false divides below = kept rule n m d divides below

-- where the denominators aren't 0
pub order_kept : (elapsed other : ℕ) (rating : Rating) (laps : Option LapCounts)
    (rounding : Rounding) → elapsed ≤ other
    → IfOk (exact_time elapsed rating laps) (λ time. 0 < time.denominator)
    → NoLater (corrected_time elapsed rating laps rounding)
    (corrected_time other rating laps rounding)
order_kept elapsed other (TimeOnTime factor) None rounding below divides =
    kept rounding _ _ _ divides (mul-le-mul_right factor below)
order_kept elapsed other (TimeOnTime factor) (Some laps) rounding below divides = tt
order_kept elapsed other (Portsmouth number) None rounding below divides =
    kept rounding _ _ _ divides (omega arith)
order_kept elapsed other (Portsmouth number) (Some laps) rounding below divides =
    kept rounding _ _ _ divides
    (let most = mul-le-mul_right laps.most below in omega arith)
order_kept elapsed other (TimeOnDistance allowance distance) None rounding below divides =
    kept_in rounding _ _ 10000 _ _ (omega arith) (omega arith)
order_kept elapsed other (TimeOnDistance allowance distance) (Some laps) rounding below divides =
    tt
order_kept elapsed other (AddedOnDistance allowance distance) None rounding below divides =
    kept rounding _ _ _ divides (omega arith)
order_kept elapsed other (AddedOnDistance allowance distance) (Some laps) rounding below divides =
    tt
