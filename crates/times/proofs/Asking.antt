-- What words ask for, by what `clap` says of them.
use Rattle.std.specs.Prelude.{Box}
use Rattle.std.proofs.Common.{◌≡◌, true, Option, Some, codes, option_map, refl, sym, ap, ◌∙◌}
use Rattle.std.specs.Box.{box_value}
use Rattle.clap.specs.Words.{first_value, is_simple, is_simple_and_free, rows_of}
use Rattle.clap.specs.Simple.{subcommand_rows}
use Rattle.clap.specs.declared.parser.matches.ArgMatches.TheViews.{out-SubCommand}
use Rattle.clap.specs.declared.parser.matches.Found.{Found}
use Rattle.clap.specs.declared.parser.matches.SubCommand.{SubCommand}
use Rattle.clap.proofs.OnLiterals.{clap_on_literals}
use Rattle.clap.proofs.WalkLemmas.{first_value-rows}
use Rattle.regatta_arguments.proofs.Asking.{subcommand_is}
use Rattle.times.specs.Asked.{Race}
use Rattle.times.specs.declared.options.Asked.TheVariants.{Lines, Sums}
use Rattle.times.specs.Words.{asked_by, race_with, times, with_race, with_rules}

-- what the options of `lines` ask for
pub lines_is : {Z : Type 0} (met : Option (Box SubCommand Z)) (f : Found) (asked : Race)
    → Some (codes "lines") ≡ option_map (λ b. (out-SubCommand (box_value b)).name.now) met
    → Some (rows_of f) ≡ option_map (λ p. p.1) (subcommand_rows met)
    → Some asked ≡ race_with (first_value f)
    → asked_by (subcommand_rows met) ≡ Some (Lines asked)
lines_is met f asked named found is = ap asked_by (subcommand_is met _ _ named found)
    ∙ (λ i. option_map Lines (race_with (λ option. sym (first_value-rows f option) i)))
    ∙ ap (option_map Lines) (sym is)

-- what the options of `sums` ask for
pub sums_is : {Z : Type 0} (met : Option (Box SubCommand Z)) (f : Found) (asked : Race)
    → Some (codes "sums") ≡ option_map (λ b. (out-SubCommand (box_value b)).name.now) met
    → Some (rows_of f) ≡ option_map (λ p. p.1) (subcommand_rows met)
    → Some asked ≡ race_with (first_value f)
    → asked_by (subcommand_rows met) ≡ Some (Sums asked)
sums_is met f asked named found is = ap asked_by (subcommand_is met _ _ named found)
    ∙ (λ i. option_map Sums (race_with (λ option. sym (first_value-rows f option) i)))
    ∙ ap (option_map Sums) (sym is)

-- the program is of the kind whose matches `clap` specifies
pub simple : is_simple times ≡ true
unfolding clap_on_literals times with_race with_rules
simple = refl

pub free : is_simple_and_free times ≡ true
unfolding clap_on_literals times with_race with_rules
free = refl
