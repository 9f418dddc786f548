-- The scores of some first races, and of one race more.
use Rattle.std.proofs.Common.{◌≡◌, ℕ, ◌+◌, Bool, List, [], ◌∷◌, ◌++◌, ap, arith, cond, filter, map, ◌∙◌}
use Rattle.std.specs.List.{range_with_len}
use Rattle.std.proofs.lemmas.List.{map-append}
use Rattle.std.proofs.lemmas.List.Elements.{filter-append}
use Rattle.regatta_scores.proofs.Ranges.{range_more}

-- those of some first numbers that pass a test, and one more
pub filter_map_next : {X : Type 0} (test : X → Bool) (f : ℕ → X) (i : ℕ)
    → filter test (map f (range_with_len 1 (i + 1)))
    ≡ filter test (map f (range_with_len 1 i)) ++ cond (test (f (i + 1))) (f (i + 1) ∷ []) []
filter_map_next test f i =
    let same : (1 + i) ≡ i + 1 = omega arith in
    ap (λ ns. filter test (map f ns)) (range_more 1 i)
    ∙ ap (filter test) (map-append f (range_with_len 1 i) ((1 + i) ∷ []))
    ∙ filter-append test (map f (range_with_len 1 i)) (f (1 + i) ∷ [])
    ∙ ap (λ (k : ℕ). filter test (map f (range_with_len 1 i)) ++ filter test (f k ∷ [])) same
