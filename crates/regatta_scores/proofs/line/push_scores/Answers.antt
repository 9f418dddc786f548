use Rattle.std.proofs.Common.{◌≡◌, ◌∙◌, ◌+◌, ◌-◌, ◌++◌, ℕ, suc, Bool, true, false, List, [], ◌∷◌, ap, arith}
use Rattle.std.proofs.Common.{cond, get_or, length, map, refl, replicate, sym, take}
use Rattle.std.proofs.Math.ListN.{set}
use Rattle.std.proofs.lemmas.List.{length-map, length-take, map-append, take_more}
use Rattle.regatta_scores.specs.declared.boats.RaceScore.{RaceScore}
use Rattle.regatta_scores.specs.RaceScores.{no_score, scores_in}
use Rattle.regatta_scores.proofs.Zipped.{long_in, score_at}
use Rattle.regatta_scores.proofs.line.push_scores.Goals as goal

-- one more flag is set, or stays
one_more : (ds : List Bool) (i m : ℕ) (d : Bool) → i ≡ length ds
    → cond d (set (ds ++ replicate (suc m) false) i true) (ds ++ replicate (suc m) false)
    ≡ (ds ++ d ∷ []) ++ replicate m false
one_more [] i m true at = ap (λ k. set (replicate (suc m) false) k true) at
one_more [] i m false at = refl
one_more (x ∷ ds) i m true at =
    ap (λ k. set (x ∷ ds ++ replicate (suc m) false) k true) at
    ∙ ap (λ xs. x ∷ xs) (one_more ds (length ds) m true refl)
one_more (x ∷ ds) i m false at = ap (λ xs. x ∷ xs) (one_more ds (length ds) m false refl)

pub loop-column-preserved : goal.loop-column-preserved
loop-column-preserved c =
    let cs = c.args.columns.now in
    let boat = c.args.boat in
    let i = c.loop-column.column-index in
    let h = c.loop-column-test.true in
    let rest = length cs - (i + 1) in
    let hers = λ (column : List RaceScore). get_or column boat no_score in
    let dne = λ (s : RaceScore). s.dne in
    let before = map dne (map hers (take i cs)) in
    let here : get_or c.column-item.result boat no_score ≡ hers (get_or cs i c.column-item.result) =
    ap hers c.column-item.is in
    let more : before ++ c.score-score.result.now.dne ∷ [] ≡ map dne (scores_in (take (i + 1) cs) boat) =
    sym (ap (λ xs. map dne (map hers xs)) (take_more cs i c.column-item.result h)
    ∙ ap (map dne) (map-append hers (take i cs) (get_or cs i c.column-item.result ∷ []))
    ∙ map-append dne (map hers (take i cs)) (hers (get_or cs i c.column-item.result) ∷ [])
    ∙ ap (λ s. before ++ dne s ∷ []) (sym (c.score-score.ensures ∙ here))) in
    let so_far = c.loop-column.invariant.dnes
    ∙ ap (λ n. before ++ replicate n false) (let one : length cs - i ≡ suc rest = omega (arith, h) in one) in
    let long = length-map (map hers (take i cs)) dne in
    let at : c.len.result ≡ length before =
    omega (
      arith,
      h,
      c.len.ensures.value,
      c.loop-column.invariant.read.long,
      long,
      length-map (take i cs) hers,
      length-take i cs,
    ) in
    record {
      read = c.push_points-so_far.ensures (scores_in cs boat) i c.loop-column.invariant.read
          (omega (arith, h, long_in cs boat))
          (c.score-score.ensures ∙ score_at cs boat i c.column-item.result _ h c.column-item.is);
      dnes = c.set_if_dne.ensures
          ∙ (λ k. cond c.score-score.result.now.dne (set (so_far k) c.len.result true) (so_far k))
          ∙ one_more before c.len.result rest c.score-score.result.now.dne at
          ∙ ap (λ xs. xs ++ replicate rest false) more;
    }
