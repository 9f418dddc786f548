-- What is printed of corrected times: the office's lines, and the sums.
use Rattle.std.specs.Prelude.{ℕ, List, [], ◌∷◌, ◌++◌, flat_map, Option, Some, None, codes, decimal}
use Rattle.regatta_terms.specs.Entries.{command_words}
use Rattle.regatta_terms.specs.declared.command.Command.TheVariants.{Time}
use Rattle.regatta_tables.specs.Lines.{line}
use Rattle.regatta_times.specs.declared.fraction.Rounding.{Rounding}
use Rattle.regatta_times.specs.declared.fraction.Rounding.TheVariants.{HalfUp, HalfDown, Down, Up}
use Rattle.regatta_times.specs.declared.rating.Rating.{Rating}
use Rattle.regatta_times.specs.declared.rating.Rating.TheVariants.{TimeOnTime, Portsmouth}
use Rattle.regatta_times.specs.declared.rating.Rating.TheVariants.{TimeOnDistance, AddedOnDistance}
use Rattle.regatta_times.specs.declared.timing.Timed.{Timed}
use Rattle.regatta_times.specs.Laps.{LapCounts}

-- the line that the office reads: its words are those of a command TIME
abbrev pub time_line : ℕ → Timed → List ℕ
time_line race timed = line (command_words (Time race timed.sail timed.seconds))

abbrev pub joined : List (List ℕ) → List ℕ
joined pieces = flat_map (λ piece. piece) pieces

-- the office's lines, one for each boat
abbrev pub lines_text : ℕ → List Timed → List ℕ
lines_text race times = flat_map (λ timed. time_line race timed) times

-- the pieces of a sum: elapsed seconds, and what is done to them, in the units of the rating
abbrev pub sum_pieces : ℕ → Rating → Option LapCounts → List (List ℕ)
sum_pieces elapsed (TimeOnTime factor) laps =
    decimal elapsed ∷ codes " * " ∷ decimal factor ∷ codes " / 10000" ∷ []
sum_pieces elapsed (Portsmouth number) None =
    decimal elapsed ∷ codes " * 1000 / " ∷ decimal number ∷ []
sum_pieces elapsed (Portsmouth number) (Some laps) =
    decimal elapsed ∷ codes " * " ∷ decimal laps.most ∷ codes " * 1000 / " ∷ decimal laps.own
    ∷ codes " / " ∷ decimal number ∷ []
sum_pieces elapsed (TimeOnDistance allowance miles) laps =
    decimal elapsed ∷ codes " - " ∷ decimal allowance ∷ codes " * " ∷ decimal miles
    ∷ codes " / 10000" ∷ []
sum_pieces elapsed (AddedOnDistance allowance miles) laps =
    decimal elapsed ∷ codes " + " ∷ decimal allowance ∷ codes " * " ∷ decimal miles
    ∷ codes " / 10000" ∷ []

-- a boat's line of the sheet: her sail, the sum and the seconds
abbrev pub sum_text : Timed → List ℕ
sum_text timed =
    joined (timed.sail ∷ codes " " ∷ [])
    ++ joined (sum_pieces timed.elapsed timed.rating timed.laps)
    ++ joined (codes " -> " ∷ decimal timed.seconds ∷ codes "\n" ∷ [])

-- the name of a rule for rounding
abbrev pub rounding_text : Rounding → List ℕ
rounding_text HalfUp = codes "half-up"
rounding_text HalfDown = codes "half-down"
rounding_text Down = codes "down"
rounding_text Up = codes "up"

-- the first line of the sheet
abbrev pub head_text : ℕ → Rounding → List ℕ
head_text race rounding =
    joined (codes "RACE " ∷ decimal race ∷ codes " " ∷ rounding_text rounding ∷ codes "\n" ∷ [])

-- the sheet: the race and the rule, and each boat's sum
abbrev pub sums_text : ℕ → Rounding → List Timed → List ℕ
sums_text race rounding times = head_text race rounding ++ flat_map sum_text times
