-- Worked examples of corrected times, by computation: each way of rounding beside the seconds.
use Rattle.std.specs.Prelude.{◌≡◌, refl, ℕ, ◌+◌, ◌*◌, [], ◌∷◌, Option, Some, None, Ok, Err}
use Rattle.std.specs.Prelude.{true, false}
use Rattle.regatta_tables.specs.Examples.{Gives}
use Rattle.regatta_times.specs.declared.clock.ClockFault.TheVariants.{FinishBeforeStart}
use Rattle.regatta_times.specs.declared.fraction.Rounding.TheVariants.{HalfUp, HalfDown, Down, Up}
use Rattle.regatta_times.specs.declared.rating.Rating.TheVariants.{TimeOnTime, Portsmouth}
use Rattle.regatta_times.specs.declared.rating.Rating.TheVariants.{TimeOnDistance}
use Rattle.regatta_times.specs.declared.correcting.TimesFault.TheVariants.{NotOfSystem, Negative}
use Rattle.regatta_times.specs.declared.correcting.TimesFault.TheVariants.{TooLong}
use Rattle.regatta_times.specs.Clock.{time_between}
use Rattle.regatta_times.specs.Corrected.{corrected_time, exact_time, over}
use Rattle.regatta_times.specs.Laps.{LapCounts}

-- hours, minutes and seconds as seconds
abbrev hms : ℕ → ℕ → ℕ → ℕ
hms hours minutes seconds = hours * 3600 + minutes * 60 + seconds

-- a boat's own laps, and the most that any boat sailed
abbrev laps_of : ℕ → ℕ → Option LapCounts
laps_of own most = Some (record { own = own; most = most })

-- ---- Portsmouth

pub exact : exact_time (hms 1 2 31) (Portsmouth 1103) None ≡ Ok (over 3751000 1103)
exact = refl

-- 3,751,000 / 1103 = 3400.7253..
pub portsmouth : Gives (corrected_time (hms 1 2 31) (Portsmouth 1103) None)
    ((HalfUp, Ok 3401) ∷ (Down, Ok 3400) ∷ [])
portsmouth = refl

-- the same boat where she sailed 3 laps and others 4: 3751 * 4 * 1000 / (3 * 1103) = 4534.3004..
pub laps : Gives (corrected_time (hms 1 2 31) (Portsmouth 1103) (laps_of 3 4))
    ((HalfUp, Ok 4534) ∷ (Up, Ok 4535) ∷ [])
laps = refl

-- as many laps as the most change nothing
pub all_laps : corrected_time (hms 1 2 31) (Portsmouth 1103) (laps_of 4 4) HalfUp ≡ Ok 3401
all_laps = refl

-- ---- time on time

-- TCF 0.985, an hour: 3546.0, and a whole number of seconds isn't raised
pub time_on_time : Gives (corrected_time (hms 1 0 0) (TimeOnTime 9850) None)
    ((HalfUp, Ok 3546) ∷ (Up, Ok 3546) ∷ [])
time_on_time = refl

-- TCF 1.0345, 2:10:07: 7807 * 1.0345 = 8076.3415
pub above_one : corrected_time (hms 2 10 7) (TimeOnTime 10345) None HalfUp ≡ Ok 8076
above_one = refl

-- a half exactly: 3700 * 0.985 = 3644.5
pub half : Gives (corrected_time 3700 (TimeOnTime 9850) None)
    ((HalfUp, Ok 3645) ∷ (HalfDown, Ok 3644) ∷ [])
half = refl

-- just above a half: 5001 * 1.0001 = 5001.5001
pub just_above_half : corrected_time 5001 (TimeOnTime 10001) None HalfDown ≡ Ok 5002
just_above_half = refl

-- rounding decides whether a time is too long: 100,001 * 9.9999 = 999,999.9999
pub longest : Gives (corrected_time 100001 (TimeOnTime 99999) None)
    ((HalfUp, Err TooLong) ∷ (Down, Ok 999999) ∷ [])
longest = refl

pub laps_with_a_factor : corrected_time 3600 (TimeOnTime 9850) (laps_of 3 4) HalfUp
    ≡ Err NotOfSystem
laps_with_a_factor = refl

-- ---- time on distance

-- 120.5 seconds a mile over 6.25 miles are 753.125 seconds; 3600 less these are 2846.875
pub time_on_distance : Gives (corrected_time (hms 1 0 0) (TimeOnDistance 12050 625) None)
    ((HalfUp, Ok 2847) ∷ (Down, Ok 2846) ∷ [])
time_on_distance = refl

-- an allowance of as much as the elapsed time leaves nothing, and of more is refused
pub nothing_left : Gives (λ elapsed. corrected_time elapsed (TimeOnDistance 12000 625) None HalfUp)
    ((750, Ok 0) ∷ (749, Err Negative) ∷ [])
nothing_left = refl

-- laps with an allowance are refused before a time below zero
pub laps_with_an_allowance : corrected_time 749 (TimeOnDistance 12000 625) (laps_of 3 4) HalfUp
    ≡ Err NotOfSystem
laps_with_an_allowance = refl

-- ---- from start and finish

pub on_one_day : time_between (hms 14 5 0) (hms 15 7 31) false ≡ Ok (hms 1 2 31)
on_one_day = refl

-- only an overnight race goes past midnight
pub past_midnight : Gives (time_between (hms 23 59 59) (hms 0 0 1))
    ((true, Ok 2) ∷ (false, Err FinishBeforeStart) ∷ [])
past_midnight = refl

-- an overnight race that a boat finishes on the first day
pub before_midnight : time_between (hms 19 0 0) (hms 23 30 0) true ≡ Ok (hms 4 30 0)
before_midnight = refl
