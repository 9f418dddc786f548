use Rattle.std.proofs.Common.{◌∙◌, ◌++◌, ◌∷◌, [], drop, sym}
use Rattle.regatta_scores.proofs.Splices.{ahead_is}
use Rattle.regatta_scores.proofs.orders.with_ahead.Goals as goal

pub returns : goal.returns
returns c =
    let order = c.args.order.now in
    let found = c.group_with-at.ensures in
    let at = c.group_with-at.result in
    c.in_ok-new-2.ensures
    ∙ (λ i. (c.in_ok-push.ensures ∙ (λ j. c.in_ok-new.ensures j ++ (c.args.boat ∷ []) ∷ [])) i
    ++ drop at order)
    ∙ sym (ahead_is order c.args.boat c.args.other at c.requires.once
    (found.found c.requires.placed) found.before found.here)
