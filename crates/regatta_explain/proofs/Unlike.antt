-- The first difference of two lists of scores.
use Rattle.std.proofs.Common.{◌≡◌, ◌⊎◌, inl, inr, ℕ, ◌+◌, ◌<◌, ◌≤◌, Bool, true, false, List, [], ◌∷◌, Option, Some, None}
use Rattle.std.proofs.Common.{length, drop, take, get_or, refl, ap, sym, ◌∙◌, arith}
use Rattle.std.specs.Prelude.{find, map, nat_eq, not, cond, zip, if◌then◌else◌}
use Rattle.std.proofs.lemmas.List.{drop_all, reverse-append, take_all, take_more}
use Rattle.std.proofs.lemmas.Slice.Zip.{get_or-zip, length-zip}
use Rattle.regatta_explain.specs.declared.parts.Compared.{Compared}
use Rattle.regatta_explain.specs.Separations.{compared_back, compared_from, compared_in, differ, unlike}

-- the first of two that is there
abbrev pub first_of_two : Option Compared → Option Compared → Option Compared
first_of_two (Some found) rest = Some found
first_of_two None rest = rest

-- where one of the lists has ended, there is no difference
pub none_left : (a b : List ℕ) (at i count : ℕ) → count ≤ i
    → (count ≡ length a) ⊎ (count ≡ length b)
    → find differ (compared_from at (drop i a) (drop i b)) ≡ None
none_left a b at i count past (inl is) =
    ap (λ (xs : List ℕ). find differ (compared_from at xs (drop i b)))
    (drop_all i a (omega (arith, past, is)))
none_left a b at i count past (inr is) =
    ap (λ (ys : List ℕ). find differ (compared_from at (drop i a) ys))
    (drop_all i b (omega (arith, past, is)))
    ∙ no_second (drop i a)
  where
    no_second : (xs : List ℕ) → find differ (compared_from at xs []) ≡ None
    no_second [] = refl
    no_second (x ∷ xs) = refl

-- the first difference in some first races, from the last of these back
abbrev pub back_from : List ℕ → List ℕ → List ℕ → ℕ → Option Compared
back_from races a b count = find differ (compared_in (take count (zip races (zip a b))))

-- that in all of them
pub back_in_all : (races a b : List ℕ) (count : ℕ) → count ≡ length races
    → find differ (compared_back races a b) ≡ back_from races a b count
back_in_all races a b count all =
    ap (λ (zs : List (ℕ × (ℕ × ℕ))). find differ (compared_in zs))
    (sym (take_all count (zip races (zip a b)) (grind (arith, all, length-zip races (zip a b)))))

-- the scores in this race, and those in the races before
pub back_on : (races a b : List ℕ) (i r x y : ℕ) → i < length races → length a ≡ length races
    → length b ≡ length races → r ≡ get_or races i r → x ≡ get_or a i x → y ≡ get_or b i y
    → find differ (compared_in (take (i + 1) (zip races (zip a b))))
    ≡ first_of_two (unlike r x y) (find differ (compared_in (take i (zip races (zip a b)))))
back_on races a b i r x y within first_long second_long is_r is_x is_y =
    ap (λ (zs : List (ℕ × (ℕ × ℕ))). find differ (compared_in zs)) (take_more all i (r, (x, y)) below)
    ∙ (λ t. find differ (map {A = ℕ × (ℕ × ℕ)} {B = Compared}
    (λ race. record { at = race.0; first = race.1.0; second = race.1.1 })
    (reverse-append (take i all) (item t ∷ []) t)))
    ∙ by (nat_eq x y) (find differ (compared_in (take i all)))
  where
    pairs : List (ℕ × ℕ)
    pairs = zip a b

    all : List (ℕ × (ℕ × ℕ))
    all = zip races pairs

    as_long : length pairs ≡ length races
    as_long = length-zip a b ∙ grind (arith, first_long, second_long)

    below : i < length all
    below = grind (arith, within, as_long, length-zip races pairs)

    item : get_or all i (r, (x, y)) ≡ (r, (x, y))
    item = get_or-zip races pairs i (r, (x, y)) within (grind (arith, within, as_long))
        ∙ (λ t. (
          sym is_r t,
          (get_or-zip a b i (x, y) (grind (arith, within, first_long))
              (grind (arith, within, second_long)) ∙ (λ s. (sym is_x s, sym is_y s))) t,
        ))

    by : (same : Bool) (rest : Option Compared)
        → cond (not same) (Some (record { at = r; first = x; second = y })) rest
        ≡ first_of_two (if same then None else Some (record { at = r; first = x; second = y })) rest
    by true rest = refl
    by false rest = refl
