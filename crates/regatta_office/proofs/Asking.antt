-- What words ask for, by what `clap` says of them.
use Rattle.std.specs.Prelude.{Box}
use Rattle.std.proofs.Common.{◌≡◌, true, Option, Some, codes, option_map, refl, sym, ap, ◌∙◌}
use Rattle.std.specs.Box.{box_value}
use Rattle.clap.specs.Words.{first_value, is_simple, is_simple_and_free, rows_of}
use Rattle.clap.specs.Simple.{subcommand_rows}
use Rattle.clap.specs.declared.parser.matches.ArgMatches.TheViews.{out-SubCommand}
use Rattle.clap.specs.declared.parser.matches.Found.{Found}
use Rattle.clap.specs.declared.parser.matches.SubCommand.{SubCommand}
use Rattle.clap.proofs.OnLiterals.{clap_on_literals}
use Rattle.clap.proofs.WalkLemmas.{first_value-rows}
use Rattle.regatta_arguments.proofs.Asking.{subcommand_is}
use Rattle.regatta_office.specs.Asked.{CheckAsked, PreviewAsked, ReplayAsked, Series, ServingAsked}
use Rattle.regatta_office.specs.declared.options.Asked.TheVariants.{Replay, Serve, Words, Explain}
use Rattle.regatta_office.specs.declared.options.Asked.TheVariants.{Preview, Check}
use Rattle.regatta_office.specs.Words.{Parsers, asked_by, check_with, preview_with, regatta}
use Rattle.regatta_office.specs.Words.{replay_with}
use Rattle.regatta_office.specs.Words.{series_with, serving_with, with_rules, with_seats, with_start}

-- what the options of `replay` ask for
pub replay_is : {Z : Type 0} (met : Option (Box SubCommand Z)) (f : Found) (asked : ReplayAsked)
    → Some (codes "replay") ≡ option_map (λ b. (out-SubCommand (box_value b)).name.now) met
    → Some (rows_of f) ≡ option_map (λ p. p.1) (subcommand_rows met)
    → Some asked ≡ replay_with (first_value f)
    → asked_by (subcommand_rows met) ≡ Some (Replay asked)
replay_is met f asked named found is = ap asked_by (subcommand_is met _ _ named found)
    ∙ (λ i. option_map Replay (replay_with (λ option. sym (first_value-rows f option) i)))
    ∙ ap (option_map Replay) (sym is)

-- what the options of `serve` ask for
pub serving_is : {Z : Type 0} (met : Option (Box SubCommand Z)) (f : Found) (asked : ServingAsked)
    → Some (codes "serve") ≡ option_map (λ b. (out-SubCommand (box_value b)).name.now) met
    → Some (rows_of f) ≡ option_map (λ p. p.1) (subcommand_rows met)
    → serving_with (first_value f) ≡ Some asked
    → asked_by (subcommand_rows met) ≡ Some (Serve asked)
serving_is met f asked named found is = ap asked_by (subcommand_is met _ _ named found)
    ∙ (λ i. option_map Serve (serving_with (λ option. sym (first_value-rows f option) i)))
    ∙ ap (option_map Serve) is

-- `words` asks for the vocabulary
pub words_is : {Z : Type 0} (met : Option (Box SubCommand Z)) (f : Found)
    → Some (codes "words") ≡ option_map (λ b. (out-SubCommand (box_value b)).name.now) met
    → Some (rows_of f) ≡ option_map (λ p. p.1) (subcommand_rows met)
    → asked_by (subcommand_rows met) ≡ Some Words
words_is met f named found = ap asked_by (subcommand_is met _ _ named found)

-- what the options of `explain` ask for
pub explain_is : {Z : Type 0} (met : Option (Box SubCommand Z)) (f : Found) (series : Series)
    → Some (codes "explain") ≡ option_map (λ b. (out-SubCommand (box_value b)).name.now) met
    → Some (rows_of f) ≡ option_map (λ p. p.1) (subcommand_rows met)
    → Some series ≡ series_with (first_value f)
    → asked_by (subcommand_rows met) ≡ Some (Explain series)
explain_is met f series named found is = ap asked_by (subcommand_is met _ _ named found)
    ∙ (λ i. option_map Explain (series_with (λ option. sym (first_value-rows f option) i)))
    ∙ ap (option_map Explain) (sym is)

-- what the options of `preview` ask for
pub preview_is : {Z : Type 0} (met : Option (Box SubCommand Z)) (f : Found) (asked : PreviewAsked)
    → Some (codes "preview") ≡ option_map (λ b. (out-SubCommand (box_value b)).name.now) met
    → Some (rows_of f) ≡ option_map (λ p. p.1) (subcommand_rows met)
    → Some asked ≡ preview_with (first_value f)
    → asked_by (subcommand_rows met) ≡ Some (Preview asked)
preview_is met f asked named found is = ap asked_by (subcommand_is met _ _ named found)
    ∙ (λ i. option_map Preview (preview_with (λ option. sym (first_value-rows f option) i)))
    ∙ ap (option_map Preview) (sym is)

-- what the options of `check` ask for
pub check_is : {Z : Type 0} (met : Option (Box SubCommand Z)) (f : Found) (asked : CheckAsked)
    → Some (codes "check") ≡ option_map (λ b. (out-SubCommand (box_value b)).name.now) met
    → Some (rows_of f) ≡ option_map (λ p. p.1) (subcommand_rows met)
    → Some asked ≡ check_with (first_value f)
    → asked_by (subcommand_rows met) ≡ Some (Check asked)
check_is met f asked named found is = ap asked_by (subcommand_is met _ _ named found)
    ∙ (λ i. option_map Check (check_with (λ option. sym (first_value-rows f option) i)))
    ∙ ap (option_map Check) (sym is)

-- the program is of the kind whose matches `clap` specifies
pub simple : (parsers : Parsers) → is_simple (regatta parsers) ≡ true
unfolding clap_on_literals regatta with_rules with_start with_seats
simple parsers = refl

pub free : (parsers : Parsers) → is_simple_and_free (regatta parsers) ≡ true
unfolding clap_on_literals regatta with_rules with_start with_seats
free parsers = refl
