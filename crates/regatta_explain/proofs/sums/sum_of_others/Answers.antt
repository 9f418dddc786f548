use Rattle.std.proofs.Common.{◌+◌, ◌∙◌}
use Rattle.std.specs.Prelude.{filter, zip}
use Rattle.regatta_explain.specs.Averaged.{counted_sum, has_own}
use Rattle.regatta_explain.proofs.SumFacts.{sum_others}
use Rattle.regatta_explain.proofs.Zips.{rest_is}
use Rattle.regatta_explain.proofs.sums.sum_of_others.Goals as goal

pub returns : goal.returns
returns c =
    let races = c.args.races.now in
    let scores = c.args.scores.now in
    let at = c.args.at in
    let after = c.own_sum-2.ensures.value
    ∙ (λ t. counted_sum (filter has_own (zip (rest_is (at + 1) races t) (rest_is (at + 1) scores t)))) in
    (λ t. c.own_sum.ensures.value t + after t) ∙ sum_others races scores at
