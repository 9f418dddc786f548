-- When each fault comes.
use Rattle.std.proofs.Common.{◌≡◌, ℕ, Bool, true, false, nat_le, nat_lt, Option, Some, None, Result}
use Rattle.std.proofs.Common.{Ok, Err, IsTrue, ◌↔◌, if◌then◌else◌, refl, sym, arith, lt-ltb}
use borrow.Author.Tests.{ltb-true, leb-true, leb-false}
use Rattle.regatta_times.specs.declared.fraction.Fraction.{Fraction}
use Rattle.regatta_times.specs.declared.fraction.Rounding.{Rounding}
use Rattle.regatta_times.specs.declared.rating.Rating.{Rating}
use Rattle.regatta_times.specs.declared.rating.Rating.TheVariants.{TimeOnTime, Portsmouth}
use Rattle.regatta_times.specs.declared.rating.Rating.TheVariants.{TimeOnDistance, AddedOnDistance}
use Rattle.regatta_times.specs.declared.correcting.TimesFault.{TimesFault}
use Rattle.regatta_times.specs.declared.correcting.TimesFault.TheVariants.{NotOfSystem, Negative}
use Rattle.regatta_times.specs.declared.correcting.TimesFault.TheVariants.{TooLong}
use Rattle.regatta_times.specs.Corrected.{exact_time, in_seconds, corrected_time}
use Rattle.regatta_times.specs.Corrected.{at_most_six_digits}
use Rattle.regatta_times.specs.Corrected.{has_laps_of_another_system, allows_too_much, is_too_long}
use Rattle.regatta_times.specs.Fractions.{rounded}
use Rattle.regatta_times.specs.Laps.{LapCounts}

-- too many seconds have no other fault
no_system_fault : (b : Bool) (n : ℕ)
    → ◌≡◌ {A = Result ℕ TimesFault} (if b then Ok n else Err TooLong) (Err NotOfSystem) → ⊥
no_system_fault true n h = cc
no_system_fault false n h = cc

no_negative : (b : Bool) (n : ℕ)
    → ◌≡◌ {A = Result ℕ TimesFault} (if b then Ok n else Err TooLong) (Err Negative) → ⊥
no_negative true n h = cc
no_negative false n h = cc

no_system_fault_in : (rounding : Rounding) (b : Bool) (time : Fraction)
    → in_seconds rounding (if b then Err Negative else Ok time) ≡ Err NotOfSystem → ⊥
no_system_fault_in rounding true time h = cc
no_system_fault_in rounding false time h = no_system_fault _ _ h

-- too long is above 999,999
limit_by : (n : ℕ) (b : Bool) → b ≡ nat_le n 999999
    → (◌≡◌ {A = Result ℕ TimesFault} (if b then Ok n else Err TooLong) (Err TooLong))
    ↔ IsTrue (nat_lt 999999 n)
limit_by n true is =
    let short = leb-true n 999999 (sym is) in
    ((λ h. cc), (λ h. let long = ltb-true 999999 n h in absurd (omega arith)))
limit_by n false is =
    let long = leb-false n 999999 (sym is) in
    ((λ h. lt-ltb 999999 n (omega arith)), (λ h. refl))

limit : (n : ℕ) → (at_most_six_digits n ≡ Err TooLong) ↔ IsTrue (nat_lt 999999 n)
limit n = limit_by n _ refl

too_long_in : (rounding : Rounding) (b : Bool) (time : Fraction)
    → (in_seconds rounding (if b then Err Negative else Ok time) ≡ Err TooLong)
    ↔ IsTrue (is_too_long rounding (if b then Err Negative else Ok time))
too_long_in rounding true time = ((λ h. cc), (λ h. cc))
too_long_in rounding false time = limit (rounded rounding time)

negative_in : (rounding : Rounding) (b : Bool) (time : Fraction)
    → (in_seconds rounding (if b then Err Negative else Ok time) ≡ Err Negative) ↔ IsTrue b
negative_in rounding true time = ((λ h. refl), (λ h. refl))
negative_in rounding false time = ((λ h. absurd (no_negative _ _ h)), (λ h. cc))

pub system_fault_is : (elapsed : ℕ) (rating : Rating) (laps : Option LapCounts)
    (rounding : Rounding) → (corrected_time elapsed rating laps rounding ≡ Err NotOfSystem)
    ↔ IsTrue (has_laps_of_another_system rating laps)
system_fault_is elapsed (Portsmouth number) laps rounding =
    ((λ h. absurd (no_system_fault _ _ h)), (λ h. cc))
system_fault_is elapsed (TimeOnTime factor) None rounding =
    ((λ h. absurd (no_system_fault _ _ h)), (λ h. cc))
system_fault_is elapsed (TimeOnTime factor) (Some laps) rounding = ((λ h. refl), (λ h. refl))
system_fault_is elapsed (TimeOnDistance allowance distance) None rounding =
    ((λ h. absurd (no_system_fault_in rounding _ _ h)), (λ h. cc))
system_fault_is elapsed (TimeOnDistance allowance distance) (Some laps) rounding =
    ((λ h. refl), (λ h. refl))
system_fault_is elapsed (AddedOnDistance allowance distance) None rounding =
    ((λ h. absurd (no_system_fault _ _ h)), (λ h. cc))
system_fault_is elapsed (AddedOnDistance allowance distance) (Some laps) rounding =
    ((λ h. refl), (λ h. refl))

pub negative_is : (elapsed : ℕ) (rating : Rating) (laps : Option LapCounts)
    (rounding : Rounding) → (corrected_time elapsed rating laps rounding ≡ Err Negative)
    ↔ IsTrue (allows_too_much elapsed rating laps)
negative_is elapsed (Portsmouth number) laps rounding =
    ((λ h. absurd (no_negative _ _ h)), (λ h. cc))
negative_is elapsed (TimeOnTime factor) None rounding =
    ((λ h. absurd (no_negative _ _ h)), (λ h. cc))
negative_is elapsed (TimeOnTime factor) (Some laps) rounding = ((λ h. cc), (λ h. cc))
negative_is elapsed (TimeOnDistance allowance distance) None rounding = negative_in rounding _ _
negative_is elapsed (TimeOnDistance allowance distance) (Some laps) rounding =
    ((λ h. cc), (λ h. cc))
negative_is elapsed (AddedOnDistance allowance distance) None rounding =
    ((λ h. absurd (no_negative _ _ h)), (λ h. cc))
negative_is elapsed (AddedOnDistance allowance distance) (Some laps) rounding =
    ((λ h. cc), (λ h. cc))

pub too_long_is : (elapsed : ℕ) (rating : Rating) (laps : Option LapCounts)
    (rounding : Rounding) → (corrected_time elapsed rating laps rounding ≡ Err TooLong)
    ↔ IsTrue (is_too_long rounding (exact_time elapsed rating laps))
too_long_is elapsed (Portsmouth number) laps rounding = limit _
too_long_is elapsed (TimeOnTime factor) None rounding = limit _
too_long_is elapsed (TimeOnTime factor) (Some laps) rounding = ((λ h. cc), (λ h. cc))
too_long_is elapsed (TimeOnDistance allowance distance) None rounding = too_long_in rounding _ _
too_long_is elapsed (TimeOnDistance allowance distance) (Some laps) rounding =
    ((λ h. cc), (λ h. cc))
too_long_is elapsed (AddedOnDistance allowance distance) None rounding = limit _
too_long_is elapsed (AddedOnDistance allowance distance) (Some laps) rounding =
    ((λ h. cc), (λ h. cc))

pub ruleset fault_facts = (system_fault_is, negative_is, too_long_is)
