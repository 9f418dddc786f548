-- Races with the scores in them.
use Rattle.std.proofs.Common.{◌≡◌, ℕ, ◌+◌, ◌-◌, ◌<◌, Bool, true, false, List, [], ◌∷◌, ◌++◌, suc, zero}
use Rattle.std.proofs.Common.{length, drop, map, take, get_or, refl, ap, sym, ◌∙◌, arith}
use Rattle.std.specs.Prelude.{filter, zip, cond, if◌then◌else◌}
use Rattle.std.proofs.lemmas.List.{length-drop, map-append, map_more, take_all, take_more}
use Rattle.std.proofs.lemmas.List.Elements.{filter-append}
use Rattle.std.proofs.lemmas.Slice.Zip.{get_or-zip, length-zip}
use Rattle.regatta_scores.specs.Averages.{is_own}
use Rattle.regatta_scores.specs.declared.boats.RaceScore.{RaceScore}
use Rattle.regatta_explain.specs.Averaged.{counted_races, has_own, own_race}

zip_none : {A B : Type 0} (xs : List A) → ◌≡◌ {A = List (A × B)} (zip xs []) []
zip_none [] = refl
zip_none (x ∷ xs) = refl

-- some first races with the scores in them
pub zip_first : {A B : Type 0} (i : ℕ) (xs : List A) (ys : List B)
    → zip (take i xs) (take i ys) ≡ take i (zip xs ys)
zip_first zero xs ys = refl
zip_first (suc i) [] ys = refl
zip_first (suc i) (x ∷ xs) [] = refl
zip_first (suc i) (x ∷ xs) (y ∷ ys) = ap (λ (zs : List _). (x, y) ∷ zs) (zip_first i xs ys)

-- the races after these
pub zip_last : {A B : Type 0} (i : ℕ) (xs : List A) (ys : List B)
    → zip (drop i xs) (drop i ys) ≡ drop i (zip xs ys)
zip_last zero xs ys = refl
zip_last (suc i) [] ys = refl
zip_last (suc i) (x ∷ xs) [] = zip_none (drop i xs)
zip_last (suc i) (x ∷ xs) (y ∷ ys) = zip_last i xs ys

-- the rest of a list, as a range of it
pub rest_is : {A : Type 0} (n : ℕ) (xs : List A) → take (length xs - n) (drop n xs) ≡ drop n xs
rest_is n xs = take_all (length xs - n) (drop n xs) (grind (arith, length-drop n xs))

-- the races that count, in one race more
pub own_more : (races : List ℕ) (scores : List RaceScore) (i r : ℕ) (s : RaceScore)
    → i < length races → length races ≡ length scores → r ≡ get_or races i r
    → s ≡ get_or scores i s
    → counted_races (filter has_own (take (i + 1) (zip races scores)))
    ≡ counted_races (filter has_own (take i (zip races scores))) ++ own_race r s
own_more races scores i r s within equal is_r is_s =
    ap (λ (zs : List (ℕ × RaceScore)). counted_races (filter has_own zs))
    (take_more all i (r, s) below)
    ∙ ap counted_races (filter-append has_own (take i all) (get_or all i (r, s) ∷ []))
    ∙ map-append (λ (score : ℕ × RaceScore). score.0) (filter has_own (take i all))
    (filter has_own (get_or all i (r, s) ∷ []))
    ∙ ap (λ (z : ℕ × RaceScore). counted_races (filter has_own (take i all))
    ++ counted_races (filter has_own (z ∷ []))) item
    ∙ ap (λ (one : List ℕ). counted_races (filter has_own (take i all)) ++ one)
    (by (is_own s.averaged))
  where
    all : List (ℕ × RaceScore)
    all = zip races scores

    below : i < length all
    below = grind (arith, within, equal, length-zip races scores)

    item : get_or all i (r, s) ≡ (r, s)
    item = get_or-zip races scores i (r, s) within (grind (arith, within, equal))
        ∙ (λ t. (sym is_r t, sym is_s t))

    by : (own : Bool) → counted_races (cond own ((r, s) ∷ []) [])
        ≡ (if own then r ∷ [] else [])
    by true = refl
    by false = refl

-- the races that count before this one
pub own_first : (races : List ℕ) (scores : List RaceScore) (i : ℕ)
    → counted_races (filter has_own (zip (take i races) (take i scores)))
    ≡ counted_races (filter has_own (take i (zip races scores)))
own_first races scores i =
    ap (λ (zs : List (ℕ × RaceScore)). counted_races (filter has_own zs)) (zip_first i races scores)

-- and with those after it
pub own_others : (races : List ℕ) (scores : List RaceScore) (i : ℕ)
    → counted_races (filter has_own (zip (take i races) (take i scores)))
    ++ counted_races (filter has_own (zip (drop (i + 1) races) (drop (i + 1) scores)))
    ≡ counted_races (filter has_own (take i (zip races scores) ++ drop (suc i) (zip races scores)))
own_others races scores i =
    let next : i + 1 ≡ suc i = omega arith in
    (λ t. counted_races (filter has_own (zip_first i races scores t))
    ++ counted_races (filter has_own (zip_last (i + 1) races scores t)))
    ∙ ap (λ (n : ℕ). counted_races (filter has_own (take i (zip races scores)))
    ++ counted_races (filter has_own (drop n (zip races scores)))) next
    ∙ sym (ap counted_races (filter-append has_own (take i (zip races scores)) (drop (suc i) (zip races scores)))
    ∙ map-append (λ (score : ℕ × RaceScore). score.0) (filter has_own (take i (zip races scores)))
    (filter has_own (drop (suc i) (zip races scores))))

-- what is made of two lists side by side, in one place more
pub zipped_more : {A B C : Type 0} (f : A × B → C) (xs : List A) (ys : List B) (i : ℕ) (x : A) (y : B)
    → i < length xs → length ys ≡ length xs → x ≡ get_or xs i x → y ≡ get_or ys i y
    → map f (take (i + 1) (zip xs ys)) ≡ map f (take i (zip xs ys)) ++ f (x, y) ∷ []
zipped_more f xs ys i x y within equal is_x is_y =
    let below : i < length (zip xs ys) = omega (arith, within, equal, length-zip xs ys) in
    map_more f (zip xs ys) i (x, y) below
    ∙ ap (λ z. map f (take i (zip xs ys)) ++ f z ∷ [])
    (get_or-zip xs ys i (x, y) within (omega (arith, within, equal))
    ∙ (λ t. (sym is_x t, sym is_y t)))

-- two lists side by side, if what is made of each place is known
pub zipped_known : {B C : Type 0} (f : ℕ × List B → C) (g : ℕ → C) (xs : List ℕ) (ys : List (List B))
    → length ys ≡ length xs
    → ((i : ℕ) → i < length xs → f (get_or xs i 0, get_or ys i []) ≡ g (get_or xs i 0))
    → map f (zip xs ys) ≡ map g xs
zipped_known f g [] ys equal same = refl
zipped_known f g (x ∷ xs) [] equal same = absurd (omega (arith, equal))
zipped_known f g (x ∷ xs) (y ∷ ys) equal same =
    λ t. same 0 (omega arith) t ∷ zipped_known f g xs ys (omega (arith, equal))
    (λ i h. same (suc i) (omega (arith, h))) t
