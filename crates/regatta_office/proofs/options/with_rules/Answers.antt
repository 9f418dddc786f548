use Rattle.std.proofs.Common.{refl, ◌∙◌}
use Rattle.regatta_arguments.proofs.Asking.{stays_local, with_one_more}
use Rattle.regatta_office.specs.Words.{with_rules}
use Rattle.regatta_office.proofs.options.with_rules.Goals as goal

pub returns-clause-app : goal.returns-clause-app
unfolding with_rules
returns-clause-app c =
    let absent = c.in_ok-arg.ensures.shape c.option_or-absent.ensures.local in
    let scp = c.in_ok-arg-2.ensures.shape c.option-scp.ensures.local in
    let exclude = c.in_ok-arg-3.ensures.shape c.option_or-exclude.ensures.local in
    let handicap = c.in_ok-command.ensures.shape c.flag-handicap.ensures.local in
    with_one_more _ _ _ _ _ handicap
    (with_one_more _ _ _ _ _ exclude
    (with_one_more _ _ _ _ _ scp
    (with_one_more _ _ _ _ _ absent refl c.option_or-absent.ensures.rule)
    c.option-scp.ensures.rule)
    c.option_or-exclude.ensures.rule)
    c.flag-handicap.ensures.rule

pub returns-clause-local : goal.returns-clause-local
returns-clause-local c =
    stays_local _ _ _ c.in_ok-command.ensures.globals c.flag-handicap.ensures.local
    ∙ stays_local _ _ _ c.in_ok-arg-3.ensures.globals c.option_or-exclude.ensures.local
    ∙ stays_local _ _ _ c.in_ok-arg-2.ensures.globals c.option-scp.ensures.local
    ∙ stays_local _ _ _ c.in_ok-arg.ensures.globals c.option_or-absent.ensures.local
