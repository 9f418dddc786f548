-- The names of races, systems and rules for rounding.
use Rattle.std.specs.Prelude.{ℕ, List, Option, Some, None, codes, if◌then◌else◌}
use Rattle.std.specs.Str.{bytes_eq}
use Rattle.std.specs.Option.{option_and_then}
use Rattle.regatta_terms.specs.declared.limits.TheConstants.{MAX_RACES}
use Rattle.regatta_terms.specs.Numbers.{number_of, within}
use Rattle.regatta_times.specs.declared.fraction.Rounding.{Rounding}
use Rattle.regatta_times.specs.declared.fraction.Rounding.TheVariants.{HalfUp, HalfDown, Down, Up}
use Rattle.regatta_times.specs.declared.system.System.{System}
use Rattle.regatta_times.specs.declared.system.System.TheVariants.{Tcf, Py, Tod}

-- the race that a text of one or two digits names, as in a line of the office
abbrev pub race_of_text : List ℕ → Option ℕ
race_of_text text = option_and_then (within 1 MAX_RACES) (number_of 2 text)

-- the system of rating that a text names
abbrev pub system_of : List ℕ → Option System
system_of text =
    if bytes_eq text (codes "tcf") then Some Tcf
    else (if bytes_eq text (codes "py") then Some Py
    else (if bytes_eq text (codes "tod") then Some Tod else None))

-- the rule for rounding that a text names
abbrev pub rounding_of : List ℕ → Option Rounding
rounding_of text =
    if bytes_eq text (codes "half-up") then Some HalfUp
    else (if bytes_eq text (codes "half-down") then Some HalfDown
    else (if bytes_eq text (codes "down") then Some Down
    else (if bytes_eq text (codes "up") then Some Up else None)))
