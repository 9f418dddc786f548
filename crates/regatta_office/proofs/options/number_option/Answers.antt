use Rattle.std.proofs.Common.{ap, Some, ◌∙◌}
use Rattle.clap.specs.Words.{rule_of}
use Rattle.regatta_office.proofs.options.number_option.Goals as goal

pub returns-clause-rule : goal.returns-clause-rule
returns-clause-rule c =
    let given = c.value_parser.ensures.given in
    let parser = given.1 ∙ ap Some (given.2 ∙ c.unsigned.ensures) in
    ap rule_of c.value_parser.ensures.others
    ∙ (λ i. record (c.option_or.ensures.rule i) { parser = parser i })
