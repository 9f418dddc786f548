use Rattle.std.proofs.Common.{◌≡◌, ap, rules, ◌∙◌}
use Rattle.clap.specs.Words.{app_of, new_app}
use Rattle.times.specs.Words.{with_race, with_rules}
use Rattle.times.proofs.options.subcommand.Goals as goal

pub returns-clause-app : goal.returns-clause-app
returns-clause-app c =
    let bare : app_of c.about-command.result ≡ new_app c.args.name.now = search rules in
    c.in_ok-command-2.ensures.app ∙ ap with_rules (c.in_ok-command.ensures.app
    ∙ ap with_race bare)
