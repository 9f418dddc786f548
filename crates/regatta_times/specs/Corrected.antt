-- The corrected time of a boat: first exactly, as a fraction, and then in whole seconds.
use Rattle.std.specs.Prelude.{ℕ, ◌+◌, ◌-◌, ◌*◌, nat_le, nat_lt, Option, Some, None, Result, Ok, Err}
use Rattle.std.specs.Prelude.{if◌then◌else◌, Bool, false, is_some, ◌≡◌, ◌<◌, ◌≤◌, ⊤}
use Rattle.regatta_times.specs.declared.fraction.Fraction.{Fraction}
use Rattle.regatta_times.specs.declared.fraction.Rounding.{Rounding}
use Rattle.regatta_times.specs.declared.rating.Rating.{Rating}
use Rattle.regatta_times.specs.declared.rating.Rating.TheVariants.{TimeOnTime, Portsmouth}
use Rattle.regatta_times.specs.declared.rating.Rating.TheVariants.{TimeOnDistance, AddedOnDistance}
use Rattle.regatta_times.specs.declared.correcting.TimesFault.{TimesFault}
use Rattle.regatta_times.specs.declared.correcting.TimesFault.TheVariants.{NotOfSystem, Negative}
use Rattle.regatta_times.specs.declared.correcting.TimesFault.TheVariants.{TooLong}
use Rattle.regatta_times.specs.Fractions.{rounded, IsRounded}
use Rattle.regatta_times.specs.Laps.{LapCounts}

-- a time in parts, and the parts of a second
abbrev pub over : ℕ → ℕ → Fraction
over parts second = record { numerator = parts; denominator = second }

-- time on time: the elapsed time by the factor, which is in ten-thousandths
abbrev pub on_time : ℕ → ℕ → Fraction
on_time elapsed factor = over (elapsed * factor) 10000

-- Portsmouth: the elapsed time by 1,000, over the boat's number. By average laps it is first the
-- elapsed time of as many laps as the most
abbrev pub by_portsmouth : ℕ → ℕ → Option LapCounts → Fraction
by_portsmouth elapsed number None = over (elapsed * 1000) number
by_portsmouth elapsed number (Some laps) =
    over (elapsed * laps.most * 1000) (laps.own * number)

-- time on distance: the elapsed time less the allowance for each mile of the distance. Hundredths
-- of a second by hundredths of a mile are ten-thousandths of a second
abbrev pub on_distance : ℕ → ℕ → ℕ → Result Fraction TimesFault
on_distance elapsed allowance distance =
    if nat_lt (elapsed * 10000) (allowance * distance) then Err Negative
    else Ok (over (elapsed * 10000 - allowance * distance) 10000)

-- time on distance by a negative allowance: so much is added for each mile
abbrev pub with_distance : ℕ → ℕ → ℕ → Fraction
with_distance elapsed allowance distance = over (elapsed * 10000 + allowance * distance) 10000

-- the corrected time, before it is rounded
abbrev pub exact_time : ℕ → Rating → Option LapCounts → Result Fraction TimesFault
exact_time elapsed (TimeOnTime factor) None = Ok (on_time elapsed factor)
exact_time elapsed (TimeOnTime factor) (Some laps) = Err NotOfSystem
exact_time elapsed (Portsmouth number) laps = Ok (by_portsmouth elapsed number laps)
exact_time elapsed (TimeOnDistance allowance distance) None =
    on_distance elapsed allowance distance
exact_time elapsed (TimeOnDistance allowance distance) (Some laps) = Err NotOfSystem
exact_time elapsed (AddedOnDistance allowance distance) None =
    Ok (with_distance elapsed allowance distance)
exact_time elapsed (AddedOnDistance allowance distance) (Some laps) = Err NotOfSystem

-- whole seconds, of which there are at most 999,999
abbrev pub at_most_six_digits : ℕ → Result ℕ TimesFault
at_most_six_digits seconds = if nat_le seconds 999999 then Ok seconds else Err TooLong

-- the exact time in whole seconds, by the rule for rounding
abbrev pub in_seconds : Rounding → Result Fraction TimesFault → Result ℕ TimesFault
in_seconds rounding (Err fault) = Err fault
in_seconds rounding (Ok time) = at_most_six_digits (rounded rounding time)

-- the corrected time in whole seconds: exact, and rounded once
abbrev pub corrected_time : ℕ → Rating → Option LapCounts → Rounding → Result ℕ TimesFault
corrected_time elapsed rating laps rounding = in_seconds rounding (exact_time elapsed rating laps)

-- the rounded seconds are what the rule says of the exact time, where there is one
abbrev pub RoundsExact : Rounding → Result Fraction TimesFault → ℕ → Type 0
RoundsExact rounding (Err fault) seconds = ⊥
RoundsExact rounding (Ok time) seconds = IsRounded rounding time seconds

-- when each fault comes. Laps are given for another system than Portsmouth
abbrev pub has_laps_of_another_system : Rating → Option LapCounts → Bool
has_laps_of_another_system (Portsmouth number) laps = false
has_laps_of_another_system (TimeOnTime factor) laps = is_some laps
has_laps_of_another_system (TimeOnDistance allowance distance) laps = is_some laps
has_laps_of_another_system (AddedOnDistance allowance distance) laps = is_some laps

-- more is allowed for the distance than the boat took, in ten-thousandths of a second
abbrev pub allows_too_much : ℕ → Rating → Option LapCounts → Bool
allows_too_much elapsed (Portsmouth number) laps = false
allows_too_much elapsed (TimeOnTime factor) laps = false
allows_too_much elapsed (TimeOnDistance allowance distance) None =
    nat_lt (elapsed * 10000) (allowance * distance)
allows_too_much elapsed (TimeOnDistance allowance distance) (Some laps) = false
allows_too_much elapsed (AddedOnDistance allowance distance) laps = false

-- there is a time, and rounded it is above 999,999 seconds
abbrev pub is_too_long : Rounding → Result Fraction TimesFault → Bool
is_too_long rounding (Err fault) = false
is_too_long rounding (Ok time) = nat_lt 999999 (rounded rounding time)

-- of two times, the first is no later than the second, where there are both
abbrev pub NoLater : Result ℕ TimesFault → Result ℕ TimesFault → Type 0
NoLater (Err fault) second = ⊤
NoLater (Ok first) (Err fault) = ⊤
NoLater (Ok first) (Ok second) = first ≤ second

-- a boat that sailed as many laps as the most
abbrev pub full_laps : ℕ → Option LapCounts
full_laps laps = Some (record { own = laps; most = laps })

-- by average laps, such a boat has the time that she has without laps
abbrev pub FullLapsChangeNothing : Type 0
FullLapsChangeNothing = (elapsed number laps : ℕ) (rounding : Rounding) → 0 < number → 0 < laps
    → corrected_time elapsed (Portsmouth number) (full_laps laps) rounding
    ≡ corrected_time elapsed (Portsmouth number) None rounding
