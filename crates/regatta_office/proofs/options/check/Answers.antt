use Rattle.std.proofs.Common.{◌≡◌, ap, codes, rules, ◌∙◌}
use Rattle.clap.specs.Words.{app_of, new_app, with_rule}
use Rattle.regatta_office.specs.Words.{with_rules, with_start}
use Rattle.regatta_office.proofs.options.check.Goals as goal

pub returns-clause-app : goal.returns-clause-app
returns-clause-app c =
    let bare : app_of c.about-command.result ≡ new_app (codes "check") = search rules in
    let others = c.in_ok-command.ensures.app ∙ ap with_start (c.in_ok-with_rules.ensures.app
    ∙ ap with_rules bare) in
    c.in_ok-command-2.ensures.shape c.option.ensures.local
    ∙ (λ i. with_rule (others i) (c.option.ensures.rule i))
