-- The corrected times of a race's boats, in the order of the sheet.
use Rattle.std.specs.Prelude.{ℕ, List, [], ◌∷◌, ◌++◌, Option, Some, None, nat_lt}
use Rattle.std.specs.Prelude.{Result, Ok, Err, if◌then◌else◌}
use Rattle.regatta_terms.specs.Lines.{◌>>=◌}
use Rattle.regatta_times.specs.declared.correcting.TimesFault.{TimesFault}
use Rattle.regatta_times.specs.declared.fault.SheetFault.{SheetFault}
use Rattle.regatta_times.specs.declared.fault.SheetFault.TheVariants as fault
use Rattle.regatta_times.specs.declared.fraction.Rounding.{Rounding}
use Rattle.regatta_times.specs.declared.sheet.Boat.{Boat}
use Rattle.regatta_times.specs.declared.timing.Timed.{Timed}
use Rattle.regatta_times.specs.Corrected.{corrected_time}
use Rattle.regatta_times.specs.Faults.{fault_of_time}
use Rattle.regatta_times.specs.Laps.{LapCounts, are_laps}

-- the more of two numbers of laps
abbrev pub more_laps : ℕ → Option ℕ → ℕ
more_laps most None = most
more_laps most (Some laps) = if nat_lt most laps then laps else most

-- the most laps of these boats and of those before them
abbrev pub most_laps : ℕ → List Boat → ℕ
most_laps most [] = most
most_laps most (boat ∷ boats) = most_laps (more_laps most boat.laps) boats

-- a boat's laps with the most of the race
abbrev pub laps_with : ℕ → ℕ → Option ℕ → Result (Option LapCounts) SheetFault
laps_with most row None = Ok None
laps_with most row (Some laps) =
    if are_laps laps most then Ok (Some (record { own = laps; most = most }))
    else Err (fault.BadLaps row)

-- the seconds, or the fault with the boat's row and her sail
abbrev pub seconds_or : ℕ → List ℕ → Result ℕ TimesFault → Result ℕ SheetFault
seconds_or row sail (Ok seconds) = Ok seconds
seconds_or row sail (Err f) = Err (fault_of_time row sail f)

abbrev pub seconds_of : Rounding → Boat → Option LapCounts → Result ℕ SheetFault
seconds_of rounding boat laps =
    seconds_or boat.row boat.sail (corrected_time boat.elapsed boat.rating laps rounding)

-- a boat with her corrected time
abbrev pub timed_with : Rounding → Boat → Option LapCounts → Result Timed SheetFault
timed_with rounding boat laps =
    seconds_of rounding boat laps >>= (λ seconds. Ok (record {
      sail = boat.sail;
      rating = boat.rating;
      elapsed = boat.elapsed;
      laps = laps;
      seconds = seconds;
    }))

abbrev pub timed_of : Rounding → ℕ → Boat → Result Timed SheetFault
timed_of rounding most boat =
    laps_with most boat.row boat.laps >>= (λ laps. timed_with rounding boat laps)

-- the boats' times in turn, after those that are there
abbrev pub timed_after : Rounding → ℕ → List Timed → List Boat → Result (List Timed) SheetFault
timed_after rounding most times [] = Ok times
timed_after rounding most times (boat ∷ boats) =
    timed_of rounding most boat
    >>= (λ timed. timed_after rounding most (times ++ timed ∷ []) boats)

-- the corrected times of a race
abbrev pub times_of_boats : Rounding → List Boat → Result (List Timed) SheetFault
times_of_boats rounding boats = timed_after rounding (most_laps 0 boats) [] boats
