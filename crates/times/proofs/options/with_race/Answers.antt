use Rattle.std.proofs.Common.{◌≡◌, codes, false, refl, rules, ◌∙◌}
use Rattle.clap.specs.Words.{app_of, rule_of}
use Rattle.regatta_arguments.proofs.Asking.{stays_local, with_one_more}
use Rattle.regatta_arguments.specs.Options.{required}
use Rattle.times.specs.Words.{with_race}
use Rattle.times.proofs.options.with_race.Goals as goal

pub returns-clause-app : goal.returns-clause-app
unfolding with_race
returns-clause-app c =
    let race_rule : rule_of c.required-race.result ≡ required (codes "race") = search rules in
    let race_local : c.required-race.result.global ≡ false = search rules in
    let system_rule : rule_of c.required-system.result ≡ required (codes "system") = search rules in
    let system_local : c.required-system.result.global ≡ false = search rules in
    let race = c.in_ok-arg.ensures.shape race_local in
    let system = c.in_ok-command.ensures.shape system_local in
    with_one_more _ _ _ _ _ system
    (with_one_more _ (app_of c.args.command) _ _ _ race refl race_rule) system_rule

pub returns-clause-local : goal.returns-clause-local
returns-clause-local c =
    stays_local _ _ _ c.in_ok-command.ensures.globals (search rules)
    ∙ stays_local _ _ _ c.in_ok-arg.ensures.globals (search rules)
