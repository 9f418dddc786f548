-- Sums of the scores that an average counts.
use Rattle.std.proofs.Common.{◌≡◌, ℕ, ◌+◌, ◌<◌, Bool, true, false, List, [], ◌∷◌, ◌++◌, suc, cond}
use Rattle.std.proofs.Common.{length, drop, take, get_or, refl, ap, sym, ◌∙◌, arith}
use Rattle.std.specs.Prelude.{filter, zip, if◌then◌else◌}
use Rattle.std.proofs.lemmas.List.{take_more}
use Rattle.std.proofs.lemmas.List.Elements.{filter-append}
use Rattle.std.proofs.lemmas.List.Sums.{sum_by-append}
use Rattle.std.proofs.lemmas.Slice.Zip.{get_or-zip, length-zip}
use Rattle.regatta_scores.specs.Averages.{is_own}
use Rattle.regatta_scores.specs.declared.boats.RaceScore.{RaceScore}
use Rattle.regatta_explain.specs.Averaged.{counted_sum, has_own}
use Rattle.regatta_explain.proofs.Zips.{zip_first, zip_last}

-- her points, unless an average replaces them
abbrev pub own_points : RaceScore → ℕ
own_points score = if is_own score.averaged then score.points else 0

-- the sum in one race more
pub sum_more : (races : List ℕ) (scores : List RaceScore) (i r : ℕ) (s : RaceScore)
    → i < length races → length races ≡ length scores → s ≡ get_or scores i s
    → counted_sum (filter has_own (take (i + 1) (zip races scores)))
    ≡ counted_sum (filter has_own (take i (zip races scores))) + own_points s
sum_more races scores i r s within equal is_s =
    ap (λ (zs : List (ℕ × RaceScore)). counted_sum (filter has_own zs))
    (take_more all i (r, s) below)
    ∙ ap counted_sum (filter-append has_own (take i all) (get_or all i (r, s) ∷ []))
    ∙ sum_by-append (λ (score : ℕ × RaceScore). score.1.points) (filter has_own (take i all))
    (filter has_own (get_or all i (r, s) ∷ []))
    ∙ ap (λ (z : ℕ × RaceScore). counted_sum (filter has_own (take i all))
    + counted_sum (filter has_own (z ∷ []))) item
    ∙ ap (λ (n : ℕ). counted_sum (filter has_own (take i all)) + n) (by (is_own s.averaged))
  where
    all : List (ℕ × RaceScore)
    all = zip races scores

    below : i < length all
    below = grind (arith, within, equal, length-zip races scores)

    item : get_or all i (r, s) ≡ (get_or races i r, s)
    item = get_or-zip races scores i (r, s) within (grind (arith, within, equal))
        ∙ (λ t. (get_or races i r, sym is_s t))

    by : (own : Bool) → ◌≡◌ {A = ℕ} (counted_sum (cond own ((get_or races i r, s) ∷ []) []))
        (cond own s.points 0)
    by true = omega arith
    by false = refl

-- that in the races before this one
pub sum_first : (races : List ℕ) (scores : List RaceScore) (i : ℕ)
    → counted_sum (filter has_own (zip (take i races) (take i scores)))
    ≡ counted_sum (filter has_own (take i (zip races scores)))
sum_first races scores i =
    ap (λ (zs : List (ℕ × RaceScore)). counted_sum (filter has_own zs)) (zip_first i races scores)

-- and with those after it
pub sum_others : (races : List ℕ) (scores : List RaceScore) (i : ℕ)
    → counted_sum (filter has_own (zip (take i races) (take i scores)))
    + counted_sum (filter has_own (zip (drop (i + 1) races) (drop (i + 1) scores)))
    ≡ counted_sum (filter has_own (take i (zip races scores) ++ drop (suc i) (zip races scores)))
sum_others races scores i =
    let next : i + 1 ≡ suc i = omega arith in
    (λ t. counted_sum (filter has_own (zip_first i races scores t))
    + counted_sum (filter has_own (zip_last (i + 1) races scores t)))
    ∙ ap (λ (n : ℕ). counted_sum (filter has_own (take i (zip races scores)))
    + counted_sum (filter has_own (drop n (zip races scores)))) next
    ∙ sym (ap counted_sum (filter-append has_own (take i (zip races scores)) (drop (suc i) (zip races scores)))
    ∙ sum_by-append (λ (score : ℕ × RaceScore). score.1.points)
    (filter has_own (take i (zip races scores)))
    (filter has_own (drop (suc i) (zip races scores))))
