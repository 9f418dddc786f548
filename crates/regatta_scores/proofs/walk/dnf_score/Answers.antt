use Rattle.std.proofs.Common.{◌∙◌, sym}
use Rattle.regatta_scores.proofs.Walked.{dnf_of_entered}
use Rattle.regatta_scores.proofs.walk.dnf_score.Goals as goal

pub returns-in-A52-clause-value : goal.returns-in-A52-clause-value
returns-in-A52-clause-value c =
    dnf_of_entered c.args.rules.now c.args.order.now c.args.held.now c.entered.result
    (sym c.absent.ensures ∙ c.in-A52.is) c.entered.ensures
