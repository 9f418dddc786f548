use Rattle.std.proofs.Common.{◌≡◌, ◌∙◌, ℕ, Bool, List, ap, arith, length, map, sym}
use Rattle.regatta_terms.specs.Rules.{RulesParts, exclusions_of}
use Rattle.regatta_scores.specs.declared.boats.RaceScore.{RaceScore}
use Rattle.regatta_scores.specs.RaceScores.{scores_in}
use Rattle.regatta_scores.specs.Averages.{points}
use Rattle.regatta_scores.specs.Exclusions.{excluded, net}
use Rattle.regatta_scores.specs.Lines.{line_by, scored_by}
use Rattle.regatta_scores.specs.Redressing.{scored_with}
use Rattle.regatta_scores.proofs.Lengths.{long_points}
use Rattle.regatta_scores.proofs.Reading.{put_back, within}
use Rattle.regatta_scores.proofs.Zipped.{with_dnes}
use Rattle.regatta_scores.proofs.line.boat_line.Goals as goal

pub put_averages-requires-clause-races : goal.put_averages-requires-clause-races
put_averages-requires-clause-races c =
    within c.push_scores-all.ensures.read c.as_mut_slice.ensures.value c.deref.ensures.0

pub net-requires-clause-equal : goal.net-requires-clause-equal
net-requires-clause-equal c =
    ap length (c.deref-4.ensures.0 ∙ sym c.deref-2.ensures.0)
    ∙ sym (ap length c.deref-5.ensures.0 ∙ c.exclude_worst.ensures.long)

pub invariant_of-line : goal.invariant_of-line
invariant_of-line c = record {
  few = omega (arith, ap length c.deref-2.ensures.0, c.deref-2.ensures.1);
  flagged = sym (c.exclude_worst.ensures.long ∙ ap length c.deref-2.ensures.0);
  is_total = c.net.ensures.value ∙ (λ i. net (c.deref-4.ensures.0 i) (c.deref-5.ensures.0 i));
}

-- her line, for her points and for which of her scores are DNEs
her_line : (rules : RulesParts) (ss : List RaceScore) {ps qs : List ℕ} {ds flags : List Bool}
    → ps ≡ points ss → qs ≡ points ss → ds ≡ map (λ (s : RaceScore). s.dne) ss
    → flags ≡ excluded (exclusions_of rules.thresholds (length qs)) (scored_with qs ds)
    → record { points = ps; excluded = flags } ≡ line_by rules ss
her_line rules ss hers e f is =
    let d = λ (n : ℕ). exclusions_of rules.thresholds n in
    let flagged = is ∙ (λ i. excluded (d (length (e i))) (scored_with (e i) (f i)))
    ∙ ap (excluded (d (length (points ss)))) (with_dnes ss (points ss))
    ∙ ap (λ n. excluded (d n) (scored_by ss (points ss))) (long_points ss) in
    λ i. record { points = hers i; excluded = flagged i }

pub returns-clause-value : goal.returns-clause-value
returns-clause-value c =
    let ss = scores_in c.args.columns.now c.args.boat in
    let hers = put_back ss c.push_scores-all.ensures.read c.as_mut_slice.ensures.value
    c.deref.ensures.0 c.put_averages.ensures in
    her_line c.args.rules.now ss hers (c.deref-2.ensures.0 ∙ hers)
    (c.deref-3.ensures.0 ∙ c.push_scores-all.ensures.dnes) c.exclude_worst.ensures.value
