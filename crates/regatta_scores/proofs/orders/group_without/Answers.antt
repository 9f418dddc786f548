use Rattle.std.proofs.Common.{rules, ◌∙◌, ap, filter, nat_eq, not, ℕ}
use Rattle.std.proofs.lemmas.Fn.{filter_same}
use Rattle.regatta_scores.proofs.orders.group_without.Goals as goal

-- retaining items of the copy is filtering by the closure
pub returns : goal.returns
returns c =
    let others = λ (other : ℕ). not (nat_eq other c.args.boat) in
    filter_same _ others _ (λ x b f' k. search rules) _ _ c.retain.ensures.filtered
    ∙ ap (filter others) c.in_ok-rest.ensures.items
