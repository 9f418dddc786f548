-- The options of a program and their values, as `clap` reads them.
use Rattle.std.specs.Prelude.{Bool, true, false, [], ◌∷◌, Option, Some, None, codes}
use Rattle.std.specs.Str.{bytes_eq}
use Rattle.clap.specs.Words.{App, Rule, Text, new_app, new_rule}
use Rattle.clap.specs.declared.builder.action.ArgAction.TheVariants.{SetTrue}

-- an option without a value
abbrev pub flag : Text → Rule
flag name = record (new_rule name) { long = Some name; action = Some SetTrue }

-- an option that takes one value
abbrev pub option : Text → Rule
option name = record (new_rule name) { long = Some name; value_names = 1 }

-- the same, with a default
abbrev pub option_or : Text → Text → Rule
option_or name value = record (option name) { defaults = value ∷ [] }

-- one that is required
abbrev pub required : Text → Rule
required name = record (option name) { required = true }

-- a program that has no option of its own besides its help and its version, and needs a subcommand
abbrev pub bare_program : Text → App
bare_program name =
    let app = new_app name in
    record app { top = record app.top { no_binary_name = true; subcommand_required = true; has_version = true } }

-- whether a flag is given, from the text that `clap` has for it
abbrev pub is_given : Option Text → Bool
is_given (Some word) = bytes_eq word (codes "true")
is_given None = false
