use Rattle.std.proofs.Common.{List, ℕ, ◌+◌, ◌++◌, take, ap, ◌∙◌}
use Rattle.std.specs.Prelude.{filter, zip}
use Rattle.regatta_json.proofs.Texts.{two_parts}
use Rattle.regatta_explain.specs.Averaged.{counted_races, has_own}
use Rattle.regatta_explain.proofs.Zips.{own_others, rest_is}
use Rattle.regatta_explain.proofs.averaging.push_others.Goals as goal

pub returns : goal.returns
returns c =
    let races = c.args.races.now in
    let scores = c.args.scores.now in
    let old = c.args.counted.now.items in
    let at = c.args.at in
    let before = counted_races (filter has_own (zip (take at races) (take at scores))) in
    two_parts _ _ _ _ _ c.in_ok-push_own.ensures c.in_ok-push_own-2.ensures
    ∙ (λ t. old ++ (before ++ counted_races
    (filter has_own (zip (rest_is (at + 1) races t) (rest_is (at + 1) scores t)))))
    ∙ ap (λ (t : List ℕ). old ++ t) (own_others races scores at)
