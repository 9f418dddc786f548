use Rattle.std.proofs.Common.{codes, ◌∙◌}
use Rattle.clap.specs.Words.{with_subcommand}
use Rattle.times.specs.Words.{subcommand, times}
use Rattle.times.proofs.options.times.Goals as goal

pub returns : goal.returns
unfolding times
returns c =
    c.in_ok-command-3.ensures.shape c.in_ok-subcommand-2.ensures.local
    ∙ (λ i. with_subcommand (c.in_ok-command-2.ensures.shape c.in_ok-subcommand.ensures.local i)
    (c.in_ok-subcommand-2.ensures.app i).top)
    ∙ (λ i. with_subcommand (with_subcommand (c.in_ok-command.ensures i)
    (c.in_ok-subcommand.ensures.app i).top) (subcommand (codes "sums")).top)
