use Rattle.std.proofs.Common.{◌≤◌, ℕ, List, ◌++◌, length, take, sym, ap, arith, append_assoc, ◌∙◌}
use Rattle.std.specs.Prelude.{filter, zip}
use Rattle.std.proofs.lemmas.List.{take_all}
use Rattle.std.proofs.lemmas.Slice.Zip.{length-zip}
use Rattle.regatta_scores.specs.declared.boats.RaceScore.{RaceScore}
use Rattle.regatta_explain.specs.Averaged.{counted_races, has_own, own_race}
use Rattle.regatta_explain.proofs.Zips.{own_more}
use Rattle.regatta_explain.proofs.averaging.push_own.Goals as goal

pub loop-i-preserved : goal.loop-i-preserved
loop-i-preserved c =
    let races = c.args.races.now in
    let scores = c.args.scores.now in
    let old = c.args.counted.now.items in
    let more = own_race c.index-races-i.result c.index-scores-i.result in
    let so_far = counted_races (filter has_own (take c.loop-i.i (zip races scores))) in
    c.in_ok-push_if_own.ensures ∙ ap (λ (t : List ℕ). t ++ more) c.loop-i.invariant
    ∙ append_assoc old so_far more
    ∙ ap (λ (t : List ℕ). old ++ t)
    (sym (own_more races scores c.loop-i.i c.index-races-i.result c.index-scores-i.result
    c.loop-i-test.true c.requires c.index-races-i.is c.index-scores-i.is))

pub returns : goal.returns
returns c =
    let all = zip c.args.races.now c.args.scores.now in
    let past : length all ≤ c.loop-i.i = grind (
      arith,
      c.loop-i-test.false,
      c.requires,
      length-zip c.args.races.now c.args.scores.now,
    ) in
    c.loop-i.invariant
    ∙ ap (λ (zs : List (ℕ × RaceScore)). c.args.counted.now.items ++ counted_races (filter has_own zs))
    (take_all c.loop-i.i all past)
