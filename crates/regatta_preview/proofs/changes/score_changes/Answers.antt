use Rattle.std.proofs.Common.{◌≡◌, ◌++◌, ◌∷◌, [], ap, arith, cond, filter, map, sym, ◌∙◌, ℕ}
use Rattle.std.specs.List.{range_with_len}
use Rattle.regatta_terms.specs.declared.limits.TheConstants.{MAX_RACES}
use Rattle.regatta_preview.specs.Changes.{has_score, score_change, score_changes}
use Rattle.regatta_preview.proofs.ChangeFacts.{filter_map_next}
use Rattle.regatta_preview.proofs.changes.score_changes.Goals as goal

pub loop-i-preserved : goal.loop-i-preserved
loop-i-preserved c =
    let score = score_change c.args.first.now.races c.args.was.now c.args.last.now.races
    c.args.cells.now in
    c.in_ok-push_if_scored.ensures
    ∙ (λ t. c.loop-i.invariant t
    ++ cond (has_score (c.score_change_at.ensures t)) (c.score_change_at.ensures t ∷ []) [])
    ∙ sym (filter_map_next has_score score c.loop-i.i)

pub returns : goal.returns
unfolding score_changes
returns c =
    let score = score_change c.args.first.now.races c.args.was.now c.args.last.now.races
    c.args.cells.now in
    let last : ◌≡◌ {A = ℕ} c.loop-i.i MAX_RACES = omega (arith, c.loop-i-test.false, c.loop-i.auto.i-end) in
    c.loop-i.invariant ∙ ap (λ (n : ℕ). filter has_score (map score (range_with_len 1 n))) last
