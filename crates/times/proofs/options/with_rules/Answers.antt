use Rattle.std.proofs.Common.{refl, ◌∙◌}
use Rattle.regatta_arguments.proofs.Asking.{stays_local, with_one_more}
use Rattle.times.specs.Words.{with_rules}
use Rattle.times.proofs.options.with_rules.Goals as goal

pub returns-clause-app : goal.returns-clause-app
unfolding with_rules
returns-clause-app c =
    let rounding = c.in_ok-arg.ensures.shape c.option_or-rounding.ensures.local in
    let rating = c.in_ok-arg-2.ensures.shape c.option_or-rating.ensures.local in
    let entries = c.in_ok-arg-3.ensures.shape c.option-entries.ensures.local in
    let overnight = c.in_ok-command.ensures.shape c.flag-overnight.ensures.local in
    with_one_more _ _ _ _ _ overnight
    (with_one_more _ _ _ _ _ entries
    (with_one_more _ _ _ _ _ rating
    (with_one_more _ _ _ _ _ rounding refl c.option_or-rounding.ensures.rule)
    c.option_or-rating.ensures.rule)
    c.option-entries.ensures.rule)
    c.flag-overnight.ensures.rule

pub returns-clause-local : goal.returns-clause-local
returns-clause-local c =
    stays_local _ _ _ c.in_ok-command.ensures.globals c.flag-overnight.ensures.local
    ∙ stays_local _ _ _ c.in_ok-arg-3.ensures.globals c.option-entries.ensures.local
    ∙ stays_local _ _ _ c.in_ok-arg-2.ensures.globals c.option_or-rating.ensures.local
    ∙ stays_local _ _ _ c.in_ok-arg.ensures.globals c.option_or-rounding.ensures.local
