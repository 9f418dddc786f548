use Rattle.std.proofs.Common.{◌∙◌}
use Rattle.clap.specs.Words.{with_subcommand}
use Rattle.regatta_office.specs.Words.{check, explain, preview, regatta, serve, words}
use Rattle.regatta_office.proofs.options.regatta.Goals as goal

pub returns : goal.returns
unfolding regatta
returns c =
    let forms = c.in_ok-replay.ensures.app in
    let roles = c.in_ok-preview.ensures.app in (
      record { forms = forms.0; roles = roles.0 },
      (forms.1, roles.1),
      c.in_ok-command-7.ensures.shape c.in_ok-check.ensures.local
          ∙ (λ i. with_subcommand (c.in_ok-command-6.ensures.shape c.in_ok-preview.ensures.local i)
          (c.in_ok-check.ensures.app i).top)
          ∙ (λ i. with_subcommand (with_subcommand
          (c.in_ok-command-5.ensures.shape c.in_ok-explain.ensures.local i)
          (roles.2 i).top) check.top)
          ∙ (λ i. with_subcommand (with_subcommand (with_subcommand
          (c.in_ok-command-4.ensures.shape c.words.ensures.local i)
          (c.in_ok-explain.ensures.app i).top) (preview roles.0).top) check.top)
          ∙ (λ i. with_subcommand (with_subcommand (with_subcommand (with_subcommand
          (c.in_ok-command-3.ensures.shape c.in_ok-serve.ensures.local i)
          (c.words.ensures.app i).top) explain.top) (preview roles.0).top) check.top)
          ∙ (λ i. with_subcommand (with_subcommand (with_subcommand (with_subcommand (with_subcommand
          (c.in_ok-command-2.ensures.shape c.in_ok-replay.ensures.local i)
          (c.in_ok-serve.ensures.app i).top) words.top) explain.top) (preview roles.0).top) check.top)
          ∙ (λ i. with_subcommand (with_subcommand (with_subcommand (with_subcommand (with_subcommand
          (with_subcommand
          (c.in_ok-command.ensures i) (forms.2 i).top) serve.top) words.top) explain.top)
          (preview roles.0).top) check.top),
    )
