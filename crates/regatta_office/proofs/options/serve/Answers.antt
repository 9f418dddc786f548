use Rattle.std.proofs.Common.{◌≡◌, ap, codes, rules, ◌∙◌}
use Rattle.clap.specs.Words.{app_of, new_app, with_rule}
use Rattle.regatta_office.specs.Words.{with_rules, with_seats, with_start}
use Rattle.regatta_office.proofs.options.serve.Goals as goal

pub returns-clause-app : goal.returns-clause-app
returns-clause-app c =
    let bare : app_of c.about-command.result ≡ new_app (codes "serve") = search rules in
    let others = c.in_ok-command-2.ensures.app ∙ ap with_seats (c.in_ok-command.ensures.app
    ∙ ap with_start (c.in_ok-with_rules.ensures.app ∙ ap with_rules bare)) in
    c.in_ok-command-3.ensures.shape c.option.ensures.local
    ∙ (λ i. with_rule (others i) (c.option.ensures.rule i))
