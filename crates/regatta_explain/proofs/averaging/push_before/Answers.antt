use Rattle.std.proofs.Common.{List, ℕ, ◌++◌, ap, ◌∙◌}
use Rattle.regatta_explain.proofs.Zips.{own_first}
use Rattle.regatta_explain.proofs.averaging.push_before.Goals as goal

pub returns : goal.returns
returns c =
    c.in_ok-push_own.ensures
    ∙ ap (λ (t : List ℕ). c.args.counted.now.items ++ t)
    (own_first c.args.races.now c.args.scores.now c.args.at)
