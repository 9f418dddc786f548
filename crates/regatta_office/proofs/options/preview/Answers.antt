use Rattle.std.proofs.Common.{◌≡◌, ap, codes, rules, ◌∙◌}
use Rattle.clap.specs.Words.{app_of, new_app, with_rule}
use Rattle.regatta_office.specs.Words.{with_rules, with_start}
use Rattle.regatta_office.proofs.options.preview.Goals as goal

pub returns-clause-app : goal.returns-clause-app
returns-clause-app c =
    let roles = c.role_option.ensures.rule in
    let bare : app_of c.about-command.result ≡ new_app (codes "preview") = search rules in
    let others = c.in_ok-command.ensures.app ∙ ap with_start (c.in_ok-with_rules.ensures.app
    ∙ ap with_rules bare) in (
      roles.0,
      roles.1,
      c.in_ok-command-2.ensures.shape c.role_option.ensures.local
          ∙ (λ i. with_rule (others i) (roles.2 i)),
    )
