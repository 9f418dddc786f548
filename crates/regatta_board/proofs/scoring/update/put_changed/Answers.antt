use Rattle.std.proofs.Common.{◌≡◌, ℕ, suc, ◌∷◌, List, ap, arith, length, slice_set, sym, subst, ◌∙◌}
use Rattle.std.proofs.lemmas.List.{length-set}
use Rattle.std.specs.Vec.Iter.{into_iter_items}
use Rattle.regatta_scores.specs.Current.{with_changed, AreWithin}
use Rattle.regatta_scores.specs.declared.current.NewLine.{NewLine}
use Rattle.regatta_board.proofs.scoring.update.put_changed.Goals as goal

-- the new lines after the first are those of boats
rest_within : (n : ℕ) (new : NewLine) (rest news : List NewLine) → news ≡ new ∷ rest
    → AreWithin n news → AreWithin n rest
rest_within n new rest news e all =
    λ k d h. subst (AreWithin n) e all (suc k) d (omega (arith, h))

pub loop-changed-preserved : goal.loop-changed-preserved
loop-changed-preserved c =
    let at = c.loop-changed in
    let new = c.in-Some.changed in
    let rest = into_iter_items c.next.new.self in
    let steps : into_iter_items at.changed-iterator ≡ new ∷ rest = c.in-Some.ensures.steps.0 in
    record {
      done = (λ i. with_changed (slice_set at.lines (c.from.ensures i) (c.put_line.ensures i)) rest)
          ∙ ap (with_changed at.lines) (sym steps) ∙ at.invariant.done;
      within = subst (λ n. AreWithin n rest)
          (sym (length-set at.lines c.from.result c.put_line.new.line))
          (rest_within (length at.lines) new rest (into_iter_items at.changed-iterator) steps
          at.invariant.within);
      left = (let gone = c.in-Some.ensures.steps.1 in
          omega (arith, gone, ap length steps, at.invariant.left));
    }
