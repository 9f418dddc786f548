use Rattle.std.proofs.Common.{rules, ◌∙◌}
use Rattle.regatta_arguments.proofs.Asking.{stays_local}
use Rattle.regatta_office.specs.Words.{with_start}
use Rattle.regatta_office.proofs.options.with_start.Goals as goal

pub returns-clause-app : goal.returns-clause-app
unfolding with_start
returns-clause-app c = search rules

pub returns-clause-local : goal.returns-clause-local
returns-clause-local c =
    stays_local _ _ _ c.in_ok-command.ensures.globals c.option-entries.ensures.local
    ∙ stays_local _ _ _ c.in_ok-arg.ensures.globals c.option-journal.ensures.local
