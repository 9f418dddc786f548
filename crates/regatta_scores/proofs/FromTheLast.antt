-- Lists compared from their last elements back.
use Rattle.std.proofs.Common.{◌≡◌, ℕ, ◌+◌, ◌-◌, ◌<◌, min, List, [], ◌∷◌, refl, ◌∙◌, sym, arith}
use Rattle.std.proofs.Common.{drop, length, get_or, reverse, add-one, drop-cons}
use Rattle.std.specs.Ordering.{nat_cmp, ordering_then}
use Rattle.std.specs.declared.cmp.Ordering.{Ordering}
use Rattle.std.specs.declared.cmp.Ordering.TheVariants.{Less, Equal, Greater}
use Rattle.std.specs.Cmp.Lexicographic.{slice_cmp}
use Rattle.std.proofs.lemmas.Cmp.{ranked}
use Rattle.std.proofs.lemmas.List.{get_or-reverse, length-reverse}
use Rattle.std.proofs.Math.ListN.{drop_of_length-le}

-- the comparison of two lists from their elements k on
from : ℕ → List ℕ → List ℕ → Ordering
from k xs ys = slice_cmp nat_cmp (drop k xs) (drop k ys)

from_step : (xs ys : List ℕ) (k : ℕ) → k < length xs → k < length ys →
    from k xs ys ≡ ordering_then (nat_cmp (get_or xs k 0) (get_or ys k 0)) (from (k + 1) xs ys)
unfolding from
from_step xs ys k h w =
    let e : drop k xs ≡ get_or xs k 0 ∷ drop (k + 1) xs = rw add-one (drop-cons xs k 0 h) in
    let f : drop k ys ≡ get_or ys k 0 ∷ drop (k + 1) ys = rw add-one (drop-cons ys k 0 w) in
    rw (e, f) refl

-- if one list ends, the shorter is the lesser
from_end : (xs ys : List ℕ) (k : ℕ) → k ≡ min (length xs) (length ys) →
    from k xs ys ≡ nat_cmp (length xs) (length ys)
unfolding from
from_end xs ys k end = by (nat_cmp (length xs) (length ys)) refl
  where
    by : (r : Ordering) → nat_cmp (length xs) (length ys) ≡ r → from k xs ys ≡ r
    by Less e =
        let less : length xs < length ys = ranked (length xs) (length ys) Less (sym e) in
        let f : drop k xs ≡ [] = drop_of_length-le xs (omega arith) in
        rw (f, drop-cons ys k 0 (omega arith)) refl
    by Equal e =
        let same : length xs ≡ length ys = ranked (length xs) (length ys) Equal (sym e) in
        let f : drop k xs ≡ [] = drop_of_length-le xs (omega arith) in
        let g : drop k ys ≡ [] = drop_of_length-le ys (omega arith) in
        rw (f, g) refl
    by Greater e =
        let more : length ys < length xs = ranked (length xs) (length ys) Greater (sym e) in
        let g : drop k ys ≡ [] = drop_of_length-le ys (omega arith) in
        rw (drop-cons xs k 0 (omega arith), g) refl

pub from_the_last_step : (xs ys : List ℕ) (k : ℕ) → k < length xs → k < length ys →
    slice_cmp nat_cmp (drop k (reverse xs)) (drop k (reverse ys))
    ≡ ordering_then
    (nat_cmp (get_or xs (length xs - 1 - k) 0) (get_or ys (length ys - 1 - k) 0))
    (slice_cmp nat_cmp (drop (k + 1) (reverse xs)) (drop (k + 1) (reverse ys)))
unfolding from
from_the_last_step xs ys k h w =
    from_step (reverse xs) (reverse ys) k
    (omega (arith, length-reverse xs)) (omega (arith, length-reverse ys))
    ∙ (λ i. ordering_then (nat_cmp (get_or-reverse xs k 0 h i) (get_or-reverse ys k 0 w i))
    (from (k + 1) (reverse xs) (reverse ys)))

pub from_the_last_end : (xs ys : List ℕ) (k : ℕ) → k ≡ min (length xs) (length ys) →
    slice_cmp nat_cmp (drop k (reverse xs)) (drop k (reverse ys)) ≡ nat_cmp (length xs) (length ys)
unfolding from
from_the_last_end xs ys k end =
    let a = length-reverse xs in
    let b = length-reverse ys in
    from_end (reverse xs) (reverse ys) k (omega (arith, a, b)) ∙ (λ i. nat_cmp (a i) (b i))

pub ruleset from_the_last = (from_the_last_step, from_the_last_end)
