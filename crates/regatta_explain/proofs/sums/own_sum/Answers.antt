use Rattle.std.proofs.Common.{◌≤◌, ℕ, List, ◌+◌, ap, arith, length, sym, ◌∙◌}
use Rattle.std.specs.Prelude.{filter, zip}
use Rattle.std.proofs.lemmas.List.{take_all}
use Rattle.std.proofs.lemmas.Slice.Zip.{length-zip}
use Rattle.regatta_scores.specs.declared.boats.RaceScore.{RaceScore}
use Rattle.regatta_explain.specs.Averaged.{counted_sum, has_own}
use Rattle.regatta_explain.proofs.SumFacts.{sum_more}
use Rattle.regatta_explain.proofs.sums.own_sum.Goals as goal

pub loop-i-preserved : goal.loop-i-preserved
loop-i-preserved c = record {
  sum = (λ j. c.loop-i.invariant.sum j + c.own_points-sum.ensures.value j)
      ∙ sym (sum_more c.args.races.now c.args.scores.now c.loop-i.i 0 c.index-scores-i.result
      c.loop-i-test.true c.requires.equal c.index-scores-i.is);
  bound = omega (arith, c.loop-i.invariant.bound, c.own_points-sum.ensures.small);
}

pub returns-clause-value : goal.returns-clause-value
returns-clause-value c =
    let all = zip c.args.races.now c.args.scores.now in
    let past : length all ≤ c.loop-i.i = grind (
      arith,
      c.loop-i-test.false,
      c.requires.equal,
      length-zip c.args.races.now c.args.scores.now,
    ) in
    c.loop-i.invariant.sum
    ∙ ap (λ (zs : List (ℕ × RaceScore)). counted_sum (filter has_own zs)) (take_all c.loop-i.i all past)
