use Rattle.std.proofs.Common.{◌≡◌, ◌+◌, ◌∙◌, ◌++◌, ◌∷◌, [], ℕ, List, ap, drop, get_or, sym}
use Rattle.regatta_scores.proofs.Splices.{joined_is}
use Rattle.regatta_scores.proofs.orders.joined.Goals as goal

pub returns : goal.returns
returns c =
    let order = c.args.order.now in
    let found = c.group_with-at.ensures in
    let at = c.group_with-at.result in
    let group : c.deref.result.now ≡ get_or order at [] ++ c.args.boat ∷ [] =
    c.deref.ensures.value ∙ c.in_ok-group.ensures
    ∙ ap (λ (g : List ℕ). g ++ c.args.boat ∷ []) c.group.ensures in
    c.in_ok-new-2.ensures
    ∙ (λ i. (c.in_ok-push.ensures ∙ (λ j. c.in_ok-new.ensures j ++ group j ∷ [])) i
    ++ drop (at + 1) order)
    ∙ sym (joined_is order c.args.boat c.args.other at c.requires.once
    (found.found c.requires.placed) found.before found.here)
