-- A race's sheet of times, record by record.
use Rattle.std.specs.Prelude.{ℕ, ◌-◌, Bool, false, ◌==◌, List, [], ◌∷◌, length}
use Rattle.std.specs.Prelude.{Option, Some, None, option_and_then, slice_get}
use Rattle.std.specs.Prelude.{Result, Ok, Err, if◌then◌else◌}
use Rattle.std.specs.Option.{is_none, ok_or}
use Rattle.csv.specs.Reading.{default_config, records, strip_bom}
use Rattle.regatta_terms.specs.Lines.{◌>>=◌}
use Rattle.regatta_terms.specs.Numbers.{within}
use Rattle.regatta_terms.specs.Sails.{sail_of}
use Rattle.regatta_terms.specs.declared.sail.Sail.{Sail}
use Rattle.regatta_tables.specs.EntryLists.{Record, entries_of_text}
use Rattle.regatta_times.specs.declared.clock.ClockFault.{ClockFault}
use Rattle.regatta_times.specs.declared.clock.ClockFault.TheVariants as clock
use Rattle.regatta_times.specs.declared.columns.Columns.{Columns}
use Rattle.regatta_times.specs.declared.fault.SheetFault.{SheetFault}
use Rattle.regatta_times.specs.declared.fault.SheetFault.TheVariants as fault
use Rattle.regatta_times.specs.declared.rating.Rating.{Rating}
use Rattle.regatta_times.specs.declared.rating.Rating.TheVariants.{TimeOnTime, Portsmouth}
use Rattle.regatta_times.specs.declared.rating.Rating.TheVariants.{TimeOnDistance, AddedOnDistance}
use Rattle.regatta_times.specs.declared.ratings.Rated.{Rated}
use Rattle.regatta_times.specs.declared.sheet.Boat.{Boat}
use Rattle.regatta_times.specs.declared.system.Handicap.{Handicap}
use Rattle.regatta_times.specs.declared.system.Handicap.TheVariants.{ByFactor, ByNumber}
use Rattle.regatta_times.specs.declared.system.Handicap.TheVariants.{ByAllowance, ByAddition}
use Rattle.regatta_times.specs.Clock.{time_between}
use Rattle.regatta_times.specs.Columns.{cell, columns_of, plain, titles}
use Rattle.regatta_times.specs.Ratings.{checked, handicap_for, in_turn, with_found}
use Rattle.regatta_times.specs.Texts.{distance_of, elapsed_of, number_of, time_of_day_of}

-- ---- what an empty field takes from the boat above

abbrev pub above : List Boat → Option Boat
above boats = slice_get boats (length boats - 1)

abbrev pub start_above : List Boat → Option ℕ
start_above boats = option_and_then (λ boat. boat.start) (above boats)

abbrev pub laps_above : List Boat → Option ℕ
laps_above boats = option_and_then (λ boat. boat.laps) (above boats)

abbrev pub distance_above : List Boat → Option ℕ
distance_above boats = option_and_then (λ boat. boat.distance) (above boats)

-- what was read, or the fault
abbrev pub some_or : {X : Type 0} → Option X → SheetFault → Result (Option X) SheetFault
some_or None f = Err f
some_or (Some x) f = Ok (Some x)

-- ---- the fields of a row

-- her rating
abbrev pub handicap_at : ℕ → Sail → List Rated → Result Handicap SheetFault
handicap_at row sail ratings = ok_or (handicap_for sail ratings) (fault.NoRating row sail)

-- her start, or that of the boat above
abbrev pub start_at : ℕ → List Boat → List ℕ → Result (Option ℕ) SheetFault
start_at row boats text =
    if length text == 0 then Ok (start_above boats)
    else some_or (time_of_day_of text) (fault.BadTime row)

-- the time between start and finish
abbrev pub clocked : ℕ → Sail → Result ℕ ClockFault → Result ℕ SheetFault
clocked row sail (Ok elapsed) = Ok elapsed
clocked row sail (Err clock.FinishBeforeStart) = Err (fault.FinishBeforeStart row sail)

abbrev pub from_start : ℕ → Sail → Bool → Option ℕ → ℕ → Result ℕ SheetFault
from_start row sail overnight None finish = Err (fault.NoTime row)
from_start row sail overnight (Some start) finish =
    clocked row sail (time_between start finish overnight)

abbrev pub finished : ℕ → Sail → Bool → Option ℕ → Option ℕ → Result ℕ SheetFault
finished row sail overnight start None = Err (fault.BadTime row)
finished row sail overnight start (Some finish) = from_start row sail overnight start finish

-- her elapsed time by the clock
abbrev pub by_clock : ℕ → Sail → Bool → Option ℕ → List ℕ → Result ℕ SheetFault
by_clock row sail overnight start finish =
    if length finish == 0 then Err (fault.NoTime row)
    else finished row sail overnight start (time_of_day_of finish)

-- her elapsed time as it is given
abbrev pub by_watch : ℕ → List ℕ → List ℕ → Result ℕ SheetFault
by_watch row elapsed finish =
    if length finish == 0 then ok_or (elapsed_of elapsed) (fault.BadTime row)
    else Err (fault.TwoTimes row)

-- her elapsed time, by watch or by clock
abbrev pub elapsed_at : ℕ → Sail → Bool → Option ℕ → List ℕ → List ℕ → Result ℕ SheetFault
elapsed_at row sail overnight start elapsed finish =
    if length elapsed == 0 then by_clock row sail overnight start finish
    else by_watch row elapsed finish

-- 1 to 99 laps, in one or two digits
abbrev pub laps_of : List ℕ → Option ℕ
laps_of text = option_and_then (within 1 99) (number_of 1 2 text)

-- whether there is a boat above, and it has no laps
abbrev pub lacks_laps : Option Boat → Bool
lacks_laps None = false
lacks_laps (Some boat) = is_none boat.laps

-- laps that are given: all boats have some, or none has
abbrev pub laps_given : ℕ → List Boat → List ℕ → Result (Option ℕ) SheetFault
laps_given row boats text =
    if lacks_laps (above boats) then Err (fault.BadLaps row)
    else some_or (laps_of text) (fault.BadLaps row)

-- her laps, or those of the boat above
abbrev pub laps_at : ℕ → List Boat → List ℕ → Result (Option ℕ) SheetFault
laps_at row boats text =
    if length text == 0 then Ok (laps_above boats) else laps_given row boats text

-- the distance, or that of the boat above
abbrev pub distance_at : ℕ → List Boat → List ℕ → Result (Option ℕ) SheetFault
distance_at row boats text =
    if length text == 0 then Ok (distance_above boats)
    else some_or (distance_of text) (fault.BadDistance row)

-- her rating in this race: only an allowance needs the distance
abbrev pub rating_at : ℕ → Handicap → Option ℕ → Result Rating SheetFault
rating_at row (ByFactor factor) miles = Ok (TimeOnTime factor)
rating_at row (ByNumber number) miles = Ok (Portsmouth number)
rating_at row (ByAllowance allowance) None = Err (fault.BadDistance row)
rating_at row (ByAllowance allowance) (Some miles) = Ok (TimeOnDistance allowance miles)
rating_at row (ByAddition allowance) None = Err (fault.BadDistance row)
rating_at row (ByAddition allowance) (Some miles) = Ok (AddedOnDistance allowance miles)

-- ---- rows

-- a boat by her parts
abbrev pub boat_made : ℕ → Sail → Rating → ℕ → Option ℕ → Option ℕ → Option ℕ → Boat
boat_made row sail rating elapsed start laps distance = record {
  row = row;
  sail = sail;
  rating = rating;
  elapsed = elapsed;
  start = start;
  laps = laps;
  distance = distance;
}

-- the boat of a row, or its first fault: of rating, start, elapsed time, laps, distance
unfoldable pub boat_with : List Rated → Bool → Columns → ℕ → List Boat → Record → Sail
    → Result Boat SheetFault
boat_with ratings overnight columns row boats fields sail = do
  handicap ← handicap_at row sail ratings
  start ← start_at row boats (cell fields columns.start)
  elapsed ← elapsed_at row sail overnight start (cell fields columns.elapsed)
      (cell fields columns.finish)
  laps ← laps_at row boats (cell fields columns.laps)
  distance ← distance_at row boats (cell fields columns.distance)
  rating ← rating_at row handicap distance
  Ok (boat_made row sail rating elapsed start laps distance)

abbrev pub found : {X : Type 0} → Result X SheetFault → Result (Option X) SheetFault
found (Ok x) = Ok (Some x)
found (Err f) = Err f

abbrev pub boat_named : List Rated → Bool → Columns → ℕ → List Boat → Record → Option Sail
    → Result (Option Boat) SheetFault
boat_named ratings overnight columns row boats fields None = Ok None
boat_named ratings overnight columns row boats fields (Some sail) =
    found (boat_with ratings overnight columns row boats fields sail)

-- the boat of a row, if it names one
abbrev pub boat_of : List Rated → Bool → Columns → ℕ → List Boat → Record
    → Result (Option Boat) SheetFault
boat_of ratings overnight columns row boats fields =
    boat_named ratings overnight columns row boats fields (sail_of (cell fields columns.sail))

-- the boats with that of one more record
abbrev pub boat_added : List Rated → Bool → Columns → ℕ → List Boat → Record
    → Result (List Boat) SheetFault
boat_added ratings overnight columns row boats fields =
    with_found boats (boat_of ratings overnight columns row boats (plain fields))

-- the boats of the records after the header, from those columns
abbrev pub boats_under : List Rated → Bool → Columns → List Record → Result (List Boat) SheetFault
boats_under ratings overnight columns records =
    in_turn (boat_added ratings overnight columns) 0 [] records

-- the boats of records; the first is the header
abbrev pub boats_of : List Rated → Bool → List Record → Result (List Boat) SheetFault
boats_of ratings overnight [] = Ok []
boats_of ratings overnight (header ∷ records) =
    boats_under ratings overnight (columns_of (titles header)) records

-- the boats of a sheet. It is an entry list, too: its sails are read and refused as there
abbrev pub boats_of_text : List Rated → Bool → List ℕ → Result (List Boat) SheetFault
boats_of_text ratings overnight text =
    checked (entries_of_text text)
    >>= (λ sails. boats_of ratings overnight (records default_config (strip_bom text)))
