use Rattle.std.proofs.Common.{◌≤◌, ◌++◌, ◌∷◌, [], ap, arith, length, map, sym, ◌∙◌}
use Rattle.std.specs.Prelude.{zip}
use Rattle.std.proofs.lemmas.List.{take_all}
use Rattle.std.proofs.lemmas.Slice.Zip.{length-zip}
use Rattle.regatta_explain.specs.AfterRaces.{after_by}
use Rattle.regatta_explain.proofs.Zips.{zipped_more}
use Rattle.regatta_explain.proofs.after_parts.after_each.Goals as goal

pub loop-i-preserved : goal.loop-i-preserved
loop-i-preserved c =
    c.in_ok-push.ensures.items
    ∙ (λ t. c.loop-i.invariant t ++ (c.in_ok-ranks_after.ensures
    ∙ ap after_by (λ u. (c.index-races-i.result, c.as_slice.ensures u))) t ∷ [])
    ∙ sym (zipped_more after_by c.args.races.now c.args.ranks.now c.loop-i.i c.index-races-i.result
    c.index-ranks-i.result c.loop-i-test.true (sym c.requires) c.index-races-i.is
    c.index-ranks-i.is)

pub returns : goal.returns
returns c =
    let pairs = zip c.args.races.now c.args.ranks.now in
    let past : length pairs ≤ c.loop-i.i =
    omega (arith, c.loop-i-test.false, c.requires, length-zip c.args.races.now c.args.ranks.now) in
    c.loop-i.invariant ∙ ap (map after_by) (take_all c.loop-i.i pairs past)
