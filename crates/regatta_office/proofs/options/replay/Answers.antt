use Rattle.std.proofs.Common.{◌≡◌, ap, codes, rules, ◌∙◌}
use Rattle.clap.specs.Words.{app_of, new_app, with_rule}
use Rattle.regatta_office.specs.Words.{with_rules, with_start}
use Rattle.regatta_office.proofs.options.replay.Goals as goal

pub returns-clause-app : goal.returns-clause-app
returns-clause-app c =
    let forms = c.form_option.ensures.rule in
    let bare : app_of c.about-command.result ≡ new_app (codes "replay") = search rules in
    let others = c.in_ok-command.ensures.app ∙ ap with_start (c.in_ok-with_rules.ensures.app
    ∙ ap with_rules bare) in (
      forms.0,
      forms.1,
      c.in_ok-command-2.ensures.shape c.form_option.ensures.local
          ∙ (λ i. with_rule (others i) (forms.2 i)),
    )
