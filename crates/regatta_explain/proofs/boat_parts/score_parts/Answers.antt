use Rattle.std.proofs.Common.{◌≡◌, ◌<◌, ◌≤◌, ◌++◌, ◌∷◌, List, [], ap, arith, get_or, length, map, sym, ◌∙◌}
use Rattle.std.proofs.Common.{ℕ}
use Rattle.std.proofs.Math.Path.{subst}
use Rattle.std.specs.Prelude.{zip}
use Rattle.std.specs.List.{enumerate_from}
use Rattle.std.proofs.lemmas.Grind.{get_or_default_zero}
use Rattle.std.proofs.lemmas.List.{get_or_read, take_all}
use Rattle.std.proofs.lemmas.List.FromFn.{length-enumerate_from}
use Rattle.std.proofs.lemmas.Slice.Zip.{length-zip}
use Rattle.regatta_scores.specs.declared.details.Scoring.{Scoring}
use Rattle.regatta_scores.specs.declared.table.Cell.{Cell}
use Rattle.regatta_explain.specs.Made.{no_scoring, part_at, score_by, scores_by, scoring_in}
use Rattle.regatta_explain.proofs.RowFacts.{parts_more}
use Rattle.regatta_explain.proofs.boat_parts.score_parts.Goals as goal

pub loop-at-preserved : goal.loop-at-preserved
unfolding part_at
loop-at-preserved c =
    let races = c.args.races.now in
    let scorings = c.args.scorings.now in
    let n = c.args.number in
    let at = c.loop-at.at in
    let race = get_or races at 0 in
    let cell = c.index-cells-at.result in
    let first : at < length scorings = omega (arith, c.loop-at-test.true, c.requires.equal) in
    let column : c.as_slice.result.now ≡ get_or scorings at [] =
    c.as_slice.ensures
    ∙ get_or_read scorings at c.index-scorings-at.result first c.index-scorings-at.is [] in
    let below : n < length c.as_slice.result.now =
    subst (λ (all : List Scoring). n < length all) (sym column) (c.requires.within at [] first) in
    let scoring : c.index-as_slice-number.result ≡ scoring_in n (get_or scorings at []) =
    get_or_read c.as_slice.result.now n c.index-as_slice-number.result below
    c.index-as_slice-number.is no_scoring
    ∙ ap (λ (all : List Scoring). get_or all n no_scoring) column in
    let scores = c.deref.ensures.value ∙ c.in_ok-scores.ensures in
    let part : c.in_ok-score_part.field-0 ≡ part_at races scorings n (at, (race, cell)) =
    c.in_ok-score_part.ensures ∙ (λ t. score_by (zip races (scores t)) at race (scoring t) cell) in
    c.in_ok-push.ensures.items ∙ (λ t. c.loop-at.invariant t ++ part t ∷ [])
    ∙ sym (parts_more (part_at races scorings n) races c.args.cells.now at race cell
    c.loop-at-test.true c.requires.cells
    (sym (get_or_default_zero races at race c.loop-at-test.true)) c.index-cells-at.is)

pub returns : goal.returns
unfolding scores_by
returns c =
    let races = c.args.races.now in
    let all = enumerate_from 0 (zip races c.args.cells.now) in
    let past : length all ≤ c.loop-at.at = omega (
      arith,
      c.loop-at-test.false,
      c.requires.cells,
      length-enumerate_from 0 (zip races c.args.cells.now),
      length-zip races c.args.cells.now,
    ) in
    c.loop-at.invariant
    ∙ ap (λ (some : List (ℕ × (ℕ × Cell))). map (part_at races c.args.scorings.now c.args.number) some)
    (take_all c.loop-at.at all past)
