use Rattle.std.proofs.Common.{ap, rules, ◌∙◌}
use Rattle.clap.specs.Words.{rule_of}
use Rattle.regatta_office.proofs.options.role_option.Goals as goal

pub returns-clause-rule : goal.returns-clause-rule
returns-clause-rule c =
    let given = c.value_parser.ensures.given in (
      given.0,
      (c.as_slice.result, given.2, search rules),
      ap rule_of c.value_parser.ensures.others
          ∙ (λ i. record (c.option_or.ensures.rule i) { parser = given.1 i }),
    )
