use Rattle.std.proofs.Common.{◌≡◌, ◌+◌, ◌∙◌, ◌++◌, ◌∷◌, [], ap, cond, drop, get_or}
use Rattle.std.proofs.Common.{nat_eq, not, sym, length}
use Rattle.regatta_scores.proofs.Pigeonhole.{others}
use Rattle.regatta_scores.specs.Order.{is_empty}
use Rattle.regatta_scores.proofs.Splices.{no_boats, without_is}
use Rattle.regatta_scores.proofs.orders.without.Goals as goal

pub returns : goal.returns
returns c =
    let order = c.args.order.now in
    let found = c.group_with-at.ensures in
    let at = c.group_with-at.result in
    let rest : c.in_ok-rest.rest.items ≡ others c.args.boat (get_or order at []) =
    c.in_ok-rest.ensures ∙ ap (others c.args.boat) c.group.ensures in
    let group : c.deref.result.now ≡ others c.args.boat (get_or order at []) =
    c.deref.ensures.value ∙ rest in
    let wanted : not c.is_empty.result
    ≡ not (is_empty (others c.args.boat (get_or order at []))) =
    ap not (c.is_empty.ensures ∙ ap (λ n. nat_eq n 0) (c.in_ok-rest.rest.ok.0 ∙ ap length rest)
    ∙ no_boats (others c.args.boat (get_or order at []))) in
    c.in_ok-new-2.ensures ∙ (λ i. (c.in_ok-push_if.ensures
    ∙ (λ j. c.in_ok-new.ensures j ++ cond (wanted j) (group j ∷ []) [])) i ++ drop (at + 1) order)
    ∙ sym (without_is order c.args.boat c.args.boat at c.requires.once
    (found.found c.requires.placed) found.before found.here c.requires.no_empty)
