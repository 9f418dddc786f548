-- Worked examples of ratings and sheets, by computation from their bytes.
use Rattle.std.specs.Prelude.{refl, ℕ, List, [], ◌∷◌, Bool, true, false, Result, Ok, Err, codes}
use Rattle.std.specs.Fmt.{digits}
use Rattle.csv.specs.Machine.{next_record}
use Rattle.csv.specs.Reading.{records_from, strip_bom}
use Rattle.regatta_terms.specs.Lines.{◌>>=◌}
use Rattle.regatta_tables.specs.Examples.{Gives}
use Rattle.regatta_tables.specs.declared.entries.EntriesFault.TheVariants.{NoColumn, Twice}
use Rattle.regatta_times.specs.declared.fault.SheetFault.{SheetFault}
use Rattle.regatta_times.specs.declared.fault.SheetFault.TheVariants as fault
use Rattle.regatta_times.specs.declared.fraction.Rounding.TheVariants.{HalfUp, Down}
use Rattle.regatta_times.specs.declared.system.System.{System}
use Rattle.regatta_times.specs.declared.system.System.TheVariants.{Tcf, Py, Tod}
use Rattle.regatta_times.specs.Printed.{lines_text, sums_text}
use Rattle.regatta_times.specs.Ratings.{ratings_of_text}
use Rattle.regatta_times.specs.Sheets.{boat_with, boats_of_text}
use Rattle.regatta_times.specs.Timings.{times_of_boats}

-- the lines of race 1, from a sheet that has the ratings too
abbrev lines_from : System → Bool → List ℕ → Result (List ℕ) SheetFault
lines_from system overnight text = do
  ratings ← ratings_of_text system (codes "Rating") text
  boats ← boats_of_text ratings overnight text
  times ← times_of_boats HalfUp boats
  Ok (lines_text 1 times)

-- the sums of race 1, rounded down
abbrev sums_from : System → List ℕ → Result (List ℕ) SheetFault
sums_from system text = do
  ratings ← ratings_of_text system (codes "Rating") text
  boats ← boats_of_text ratings false text
  times ← times_of_boats Down boats
  Ok (sums_text 1 Down times)

-- ---- the systems

-- 3751 * 1000 / 1103 = 3400.7253.., 3542 * 1000 / 985 = 3595.9390..; then her own laps against the
-- most: 3751 * 4 * 1000 / (3 * 1103) = 4534.3004..
pub portsmouth : Gives (lines_from Py false)
    ((
      codes "Sail,Rating,Elapsed\nGBR 201,1103,1:02:31\nned 80,985,59:02",
      Ok (codes "TIME 1 GBR201 3401\nTIME 1 NED80 3596\n"),
    )
    ∷ (
      codes "Sail,Rating,Elapsed,Laps\nA,1103,1:02:31,3\nB,1000,1:00:00,4",
      Ok (codes "TIME 1 A 4534\nTIME 1 B 3600\n"),
    ) ∷ [])
unfolding next_record records_from strip_bom digits boat_with
portsmouth = refl

-- one start for all, which is given once: 3600 * 1 and 3700 * 0.985 = 3644.5
pub time_on_time : Gives (lines_from Tcf false)
    ((
      codes "Sail,Rating,Start,Finish\nA,1,14:05:00,15:05:00\nB,0.985,,15:06:40",
      Ok (codes "TIME 1 A 3600\nTIME 1 B 3645\n"),
    ) ∷ [])
unfolding next_record records_from strip_bom digits boat_with
time_on_time = refl

-- 3600 - 120.5 * 6.25 = 2846.875, and 3000 + 12 * 6.25 = 3075
pub time_on_distance : Gives (lines_from Tod false)
    ((
      codes "Sail,Rating,Elapsed,Distance\nA,120.5,3600,6.25\nB,-12,50:00,",
      Ok (codes "TIME 1 A 2847\nTIME 1 B 3075\n"),
    ) ∷ [])
unfolding next_record records_from strip_bom digits boat_with
time_on_distance = refl

-- 23:59:50 to 0:10:00 the next day: 610 seconds
pub past_midnight : Gives (lines_from Tcf true)
    ((codes "Sail,Rating,Start,Finish\nA,1,23:59:50,0:10:00", Ok (codes "TIME 1 A 610\n")) ∷ [])
unfolding next_record records_from strip_bom digits boat_with
past_midnight = refl

-- ---- the sums

pub sum_of_laps : Gives (sums_from Py)
    ((
      codes "Sail,Rating,Elapsed,Laps\nA,1103,1:02:31,3\nB,1000,1:00:00,4",
      Ok (codes "RACE 1 down\nA 3751 * 4 * 1000 / 3 / 1103 -> 4534\nB 3600 * 4 * 1000 / 4 / 1000 -> 3600\n"),
    )
    ∷ [])
unfolding next_record records_from strip_bom digits boat_with
sum_of_laps = refl

-- in hundredths of seconds and of miles
pub sum_by_distance : Gives (sums_from Tod)
    ((
      codes "Sail,Rating,Elapsed,Distance\nA,120.5,3600,6.25\nB,-12,50:00,",
      Ok (codes "RACE 1 down\nA 3600 - 12050 * 625 / 10000 -> 2846\nB 3000 + 1200 * 625 / 10000 -> 3075\n"),
    )
    ∷ [])
unfolding next_record records_from strip_bom digits boat_with
sum_by_distance = refl

pub sum_by_factor : Gives (sums_from Tcf)
    ((
      codes "Sail,Rating,Elapsed\nA,0.985,1:01:40",
      Ok (codes "RACE 1 down\nA 3700 * 9850 / 10000 -> 3644\n"),
    ) ∷ [])
unfolding next_record records_from strip_bom digits boat_with
sum_by_factor = refl

-- ---- faults

-- in the last sheet the first boat has no laps, and the second some
pub portsmouth_faults : Gives (lines_from Py false)
    ((codes "Sail,Rating,Elapsed\nA,1103,3600\nB,,3600", Err (fault.NoRating 3 (codes "B")))
    ∷ (codes "Sail,Rating,Elapsed\nA,0.985,3600", Err (fault.BadRating 2))
    ∷ (codes "Sail,Elapsed\nA,3600", Err fault.NoRatings)
    ∷ (codes "Sail,Rating,Elapsed\nA,100,999999", Err (fault.TooLong 2 (codes "A")))
    ∷ (codes "Sail,Rating,Elapsed,Laps\nA,1000,3600,0", Err (fault.BadLaps 2))
    ∷ (codes "Sail,Rating,Elapsed,Laps\nA,1000,3600,\nB,1000,3600,3", Err (fault.BadLaps 3)) ∷ [])
unfolding next_record records_from strip_bom digits boat_with
portsmouth_faults = refl

-- a finish alone says nothing, and only an overnight race goes past midnight
pub factor_faults : Gives (lines_from Tcf false)
    ((codes "Sail,Rating,Elapsed\nA,1,1:60:00", Err (fault.BadTime 2))
    ∷ (codes "Sail,Rating,Elapsed\nA,1,", Err (fault.NoTime 2))
    ∷ (codes "Sail,Rating,Finish\nA,1,15:00:00", Err (fault.NoTime 2))
    ∷ (codes "Sail,Rating,Elapsed,Finish\nA,1,3600,15:00:00", Err (fault.TwoTimes 2))
    ∷ (
      codes "Sail,Rating,Start,Finish\nA,1,23:59:50,0:10:00",
      Err (fault.FinishBeforeStart 2 (codes "A")),
    )
    ∷ (codes "Sail,Rating,Elapsed,Laps\nA,1,3600,3", Err (fault.NotOfSystem 2 (codes "A")))
    ∷ (codes "Sail,Rating,Elapsed\nA,1,3600\na,1,3700", Err (fault.Sails (Twice 3)))
    ∷ (codes "Boat,Rating,Elapsed\nA,1,3600", Err (fault.Sails NoColumn)) ∷ [])
unfolding next_record records_from strip_bom digits boat_with
factor_faults = refl

pub distance_faults : Gives (lines_from Tod false)
    ((codes "Sail,Rating,Elapsed\nA,120,3600", Err (fault.BadDistance 2))
    ∷ (codes "Sail,Rating,Elapsed,Distance\nA,120,749,6.25", Err (fault.Negative 2 (codes "A")))
    ∷ [])
unfolding next_record records_from strip_bom digits boat_with
distance_faults = refl
