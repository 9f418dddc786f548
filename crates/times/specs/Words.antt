-- What the words of the program ask for, as `clap` reads them.
use Rattle.std.specs.Prelude.{◌≡◌, Bool, List, ◌∷◌, Option, Some, None, codes}
use Rattle.std.specs.Prelude.{option_map, if◌then◌else◌}
use Rattle.std.specs.Str.{bytes_eq}
use Rattle.clap.specs.Words.{App, Row, Text, first_of, new_app, with_rule, with_subcommand}
use Rattle.regatta_arguments.specs.Options.{bare_program, flag, is_given, option, option_or}
use Rattle.regatta_arguments.specs.Options.{required}
use Rattle.times.specs.Asked.{Race}
use Rattle.times.specs.declared.options.Asked.{Asked}
use Rattle.times.specs.declared.options.Asked.TheVariants.{Lines, Sums}

-- ---- the words that the program knows

-- the number of the race and the system of rating, which are required
unfoldable pub with_race : App → App
with_race app = with_rule (with_rule app (required (codes "race"))) (required (codes "system"))

-- the rule for rounding, by default to the nearest second with halves up; the heading of the
-- ratings; the entry list; and whether the race may go past midnight
unfoldable pub with_rules : App → App
with_rules app =
    with_rule (with_rule (with_rule (with_rule app
    (option_or (codes "rounding") (codes "half-up"))) (option_or (codes "rating") (codes "Rating")))
    (option (codes "entries"))) (flag (codes "overnight"))

-- the subcommand `lines` or `sums`
abbrev pub subcommand : Text → App
subcommand name = with_rules (with_race (new_app name))

-- the whole program: with its two subcommands
unfoldable pub times : App
times = with_subcommand (with_subcommand (bare_program (codes "times"))
    (subcommand (codes "lines")).top) (subcommand (codes "sums")).top

-- ---- what words ask for

-- the race, from the values that the arguments or the defaults give
abbrev pub race_by : Option Text → Option Text → Option Text → Option Text → Bool → Option Text
    → Option Race
race_by (Some race) (Some system) (Some rounding) (Some rating) overnight entries = Some (record {
  race = race;
  system = system;
  rounding = rounding;
  rating = rating;
  overnight = overnight;
  entries = entries;
})
race_by _ _ _ _ _ _ = None

-- the same, from a function that gives the value of each option by its name
abbrev pub race_with : (Text → Option Text) → Option Race
race_with value =
    race_by (value (codes "race")) (value (codes "system")) (value (codes "rounding"))
    (value (codes "rating")) (is_given (value (codes "overnight"))) (value (codes "entries"))

-- what the subcommand asks for, from its name and its options
abbrev pub asked_by : Option (Text × List Row) → Option Asked
asked_by (Some (name, rows)) =
    let value = λ (option : Text). first_of option rows in
    if bytes_eq name (codes "lines") then option_map Lines (race_with value)
    else if bytes_eq name (codes "sums") then option_map Sums (race_with value) else None
asked_by None = None
