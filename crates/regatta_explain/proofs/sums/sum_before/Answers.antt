use Rattle.std.proofs.Common.{◌∙◌}
use Rattle.regatta_explain.proofs.SumFacts.{sum_first}
use Rattle.regatta_explain.proofs.sums.sum_before.Goals as goal

pub returns : goal.returns
returns c =
    c.own_sum.ensures.value ∙ sum_first c.args.races.now c.args.scores.now c.args.at
