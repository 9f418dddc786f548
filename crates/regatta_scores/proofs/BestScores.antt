-- The best of the scores that count.
use Rattle.std.proofs.Common.{◌≡◌, ◌∙◌, ◌+◌, ◌<◌, ◌∷◌, [], ℕ, Bool, List, Some, ap, cond, drop, false}
use Rattle.std.proofs.Common.{arith, get_or, insert, length, nat_lt, refl, suc, true}
use Rattle.std.specs.List.{prefix_len}
use Rattle.std.specs.Cmp.Lexicographic.{slice_cmp}
use Rattle.std.specs.Option.{option_cmp}
use Rattle.std.specs.Ordering.{nat_cmp, ordering_then}
use Rattle.std.specs.declared.cmp.Ordering.{Ordering}
use Rattle.std.specs.declared.cmp.Ordering.TheVariants.{Less, Equal, Greater}
use Rattle.regatta_scores.specs.Exclusions.{counting}
use Rattle.regatta_scores.specs.BestScores.{first_of, or_lower}
use Rattle.regatta_scores.specs.Ranking.{rising, with_number}
use Rattle.regatta_scores.proofs.Counting.{rising_step}

first_with : (n : ℕ) (xs : List ℕ) → first_of (with_number n xs) ≡ or_lower n (first_of xs)
first_with n [] = refl
first_with n (x ∷ xs) = by (nat_lt x n)
  where
    below : ℕ
    below = prefix_len (λ y. nat_lt y n) xs

    by : (b : Bool) → first_of (insert (x ∷ xs) (cond b (1 + below) 0) n)
        ≡ cond b (Some x) (Some n)
    by true = let e : 1 + below ≡ suc below = omega arith in rw e refl
    by false = refl

-- the best of the scores from race i on, by that of the scores after it
pub best_step : (xs : List ℕ) (flags : List Bool) (i : ℕ) → i < length xs → i < length flags →
    first_of (rising (counting (drop i xs) (drop i flags)))
    ≡ cond (get_or flags i false)
    (first_of (rising (counting (drop (i + 1) xs) (drop (i + 1) flags))))
    (or_lower (get_or xs i 0)
    (first_of (rising (counting (drop (i + 1) xs) (drop (i + 1) flags)))))
best_step xs flags i h k = ap first_of (rising_step xs flags i h k) ∙ by (get_or flags i false)
  where
    after : List ℕ
    after = rising (counting (drop (i + 1) xs) (drop (i + 1) flags))

    by : (b : Bool) → first_of (cond b after (with_number (get_or xs i 0) after))
        ≡ cond b (first_of after) (or_lower (get_or xs i 0) (first_of after))
    by true = refl
    by false = first_with (get_or xs i 0) after

twice : (r s : Ordering) → ordering_then r (ordering_then r s) ≡ ordering_then r s
twice Less s = refl
twice Equal s = refl
twice Greater s = refl

-- if the best scores differ, they decide
pub first_decides : (xs ys : List ℕ) →
    ordering_then (option_cmp nat_cmp (first_of xs) (first_of ys)) (slice_cmp nat_cmp xs ys)
    ≡ slice_cmp nat_cmp xs ys
first_decides [] [] = refl
first_decides [] (y ∷ ys) = refl
first_decides (x ∷ xs) [] = refl
first_decides (x ∷ xs) (y ∷ ys) = twice (nat_cmp x y) (slice_cmp nat_cmp xs ys)
