-- A time as a fraction of seconds, and its rounding to whole seconds.
use Rattle.std.specs.Prelude.{◌≡◌, ℕ, ◌≤◌, ◌<◌, ◌+◌, ◌*◌, ◌/◌, ◌%◌, Bool}
use Rattle.std.specs.Prelude.{false, nat_le, nat_lt, if◌then◌else◌}
use Rattle.regatta_times.specs.declared.fraction.Fraction.{Fraction}
use Rattle.regatta_times.specs.declared.fraction.Rounding.{Rounding}
use Rattle.regatta_times.specs.declared.fraction.Rounding.TheVariants.{HalfUp, HalfDown, Down, Up}

-- the whole seconds that have passed
abbrev pub whole_seconds : Fraction → ℕ
whole_seconds time = time.numerator / time.denominator

-- what is over, in the parts of the fraction: a second has `denominator` of them
abbrev pub left_over : Fraction → ℕ
left_over time = time.numerator % time.denominator

-- whether the rule goes up to the next second: half a second or more is over; more than half a
-- second; never; anything at all is over
abbrev pub goes_up : Rounding → Fraction → Bool
goes_up HalfUp time = nat_le time.denominator (2 * left_over time)
goes_up HalfDown time = nat_lt time.denominator (2 * left_over time)
goes_up Down time = false
goes_up Up time = nat_lt 0 (left_over time)

-- the time in whole seconds by the rule
abbrev pub rounded : Rounding → Fraction → ℕ
rounded rule time =
    if goes_up rule time then whole_seconds time + 1 else whole_seconds time

-- whole seconds, in the parts of the fraction
abbrev pub in_parts : Fraction → ℕ → ℕ
in_parts time seconds = time.denominator * seconds

-- what rounding to these seconds means, whatever way it is done: the seconds are at most half a
-- second above the time and less than half below it; less than half above it and at most half below
-- it; not above it and less than one below it; not below it and less than one above it
abbrev pub IsRounded : Rounding → Fraction → ℕ → Type 0
IsRounded HalfUp time seconds =
    (2 * in_parts time seconds ≤ 2 * time.numerator + time.denominator)
    × (2 * time.numerator < 2 * in_parts time seconds + time.denominator)
IsRounded HalfDown time seconds =
    (2 * in_parts time seconds < 2 * time.numerator + time.denominator)
    × (2 * time.numerator ≤ 2 * in_parts time seconds + time.denominator)
IsRounded Down time seconds =
    (in_parts time seconds ≤ time.numerator)
    × (time.numerator < in_parts time seconds + time.denominator)
IsRounded Up time seconds =
    (time.numerator ≤ in_parts time seconds)
    × (in_parts time seconds < time.numerator + time.denominator)

-- rounding by a rule has one answer
abbrev pub OneRounding : Type 0
OneRounding = (rule : Rounding) (time : Fraction) (s t : ℕ) → IsRounded rule time s
    → IsRounded rule time t → s ≡ t
