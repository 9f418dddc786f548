-- Averages of a boat's points in other races (RRS A9). Points are in tenths.
use Rattle.std.specs.Prelude.{ℕ, Bool, true, not, ◌&&◌, nat_eq, nat_lt, List, filter, length, sum_by}
use Rattle.std.specs.Prelude.{Option, Some, None, Result, Ok, Err, if◌then◌else◌}
use Rattle.std.specs.List.{find, list_any}
use Rattle.regatta_rulings.specs.declared.averaging.SailedRace.{SailedRace}
use Rattle.regatta_rulings.specs.declared.decision.Bar.{Bar}
use Rattle.regatta_rulings.specs.declared.decision.Bar.TheVariants.{Open, OfAverage, NoRace}
use Rattle.regatta_rulings.specs.declared.decision.Races.{Races}
use Rattle.regatta_rulings.specs.declared.decision.Races.TheVariants.{Chosen, Sailed, Others}
use Rattle.regatta_rulings.specs.declared.decision.Races.TheVariants.{Earlier}
use Rattle.regatta_rulings.specs.Shares.{nearest}

-- whether a race is one of those that a decision chooses for an average in `race`
abbrev pub is_chosen : Races → ℕ → SailedRace → Bool
is_chosen (Chosen races) race other = list_any (nat_eq other.race) races
is_chosen Sailed race other = other.came
is_chosen Others race other = true
is_chosen Earlier race other = nat_lt other.race race

-- whether the average counts it: not the race itself, and no race in which she has an average
abbrev pub is_counted : Races → ℕ → SailedRace → Bool
is_counted races race other =
    not (nat_eq other.race race) && not other.averaged && is_chosen races race other

-- the average of her points in some races, to the nearest tenth, 0.05 upward (RRS A9(a), A9(b))
abbrev pub average : List SailedRace → Result ℕ Bar
average counted =
    if nat_eq (length counted) 0 then Err NoRace
    else Ok (nearest (sum_by (λ other. other.points) counted) (length counted))

-- whether a race is one of those that count for the series
abbrev pub is_scored : List SailedRace → ℕ → Bool
is_scored sailed race = list_any (λ other. nat_eq race other.race) sailed

abbrev pub is_open : List SailedRace → ℕ → Bool
is_open sailed race = not (is_scored sailed race)

-- whether she has an average in it
abbrev pub is_average : List SailedRace → ℕ → Bool
is_average sailed race = list_any (λ other. nat_eq other.race race && other.averaged) sailed

-- why races can't be averaged: the first that doesn't count; the first in which she has an average
abbrev pub bar_by : Option ℕ → Option ℕ → Option Bar
bar_by (Some race) average = Some (Open race)
bar_by None (Some average) = Some (OfAverage average)
bar_by None None = None

abbrev pub bar_of : List SailedRace → Races → Option Bar
bar_of sailed (Chosen races) = bar_by (find (is_open sailed) races) (find (is_average sailed) races)
bar_of sailed _ = None

-- her average in `race`, from her points in the races that count, or why there is none
abbrev pub average_by : Option Bar → List SailedRace → Result ℕ Bar
average_by (Some bar) counted = Err bar
average_by None counted = average counted

abbrev pub average_of : Races → ℕ → List SailedRace → Result ℕ Bar
average_of races race sailed =
    average_by (bar_of sailed races) (filter (is_counted races race) sailed)
