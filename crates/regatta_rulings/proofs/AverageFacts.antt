-- What an average counts, with one more race.
use Rattle.std.proofs.Common.{◌≡◌, ℕ, ◌+◌, ◌<◌, Bool, true, false, List, [], ◌∷◌, ◌++◌, length, take}
use Rattle.std.proofs.Common.{get_or, refl, sym, ap, ◌∙◌, arith, sum_by}
use Rattle.std.specs.Prelude.{filter, if◌then◌else◌}
use Rattle.std.proofs.lemmas.List.{append-nil, length_push, take_more}
use Rattle.std.proofs.lemmas.List.Elements.{filter-append}
use Rattle.std.proofs.lemmas.List.Sums.{sum_by_push}

filter_more : {X : Type 0} (p : X → Bool) (xs : List X) (i : ℕ) (d : X) → i < length xs
    → filter p (take (i + 1) xs)
    ≡ filter p (take i xs) ++ (if p (get_or xs i d) then get_or xs i d ∷ [] else [])
filter_more p xs i d below =
    ap (filter p) (take_more xs i d below) ∙ filter-append p (take i xs) (get_or xs i d ∷ [])

pub number_more : {X : Type 0} (p : X → Bool) (xs : List X) (i : ℕ) (d : X) → i < length xs
    → length (filter p (take i xs)) + (if p (get_or xs i d) then 1 else 0)
    ≡ length (filter p (take (i + 1) xs))
number_more {X = X} p xs i d below =
    by (p (get_or xs i d)) ∙ sym (ap length (filter_more p xs i d below))
  where
    so_far : List X
    so_far = filter p (take i xs)

    by : (b : Bool) → length so_far + (if b then 1 else 0)
        ≡ length (so_far ++ (if b then get_or xs i d ∷ [] else []))
    by true = sym (length_push so_far (get_or xs i d))
    by false =
        let same : length so_far + 0 ≡ length so_far = omega arith in
        same ∙ sym (ap length (append-nil so_far))

pub sum_more : {X : Type 0} (f : X → ℕ) (p : X → Bool) (xs : List X) (i : ℕ) (d : X)
    → i < length xs
    → sum_by f (filter p (take i xs)) + (if p (get_or xs i d) then f (get_or xs i d) else 0)
    ≡ sum_by f (filter p (take (i + 1) xs))
sum_more {X = X} f p xs i d below =
    by (p (get_or xs i d)) ∙ sym (ap (sum_by f) (filter_more p xs i d below))
  where
    so_far : List X
    so_far = filter p (take i xs)

    by : (b : Bool) → sum_by f so_far + (if b then f (get_or xs i d) else 0)
        ≡ sum_by f (so_far ++ (if b then get_or xs i d ∷ [] else []))
    by true = sym (sum_by_push f so_far (get_or xs i d))
    by false =
        let same : sum_by f so_far + 0 ≡ sum_by f so_far = omega arith in
        same ∙ sym (ap (sum_by f) (append-nil so_far))
