-- Lists that are the same since their items are, or since both are sorted.
use Rattle.std.proofs.Common.{◌≡◌, ℕ, zero, suc, ◌<◌, ◌≤◌, Bool, true, false, cond, ◌&&◌, List}
use Rattle.std.proofs.Common.{[], ◌∷◌, refl, ap, ◌∙◌, sym, arith, length, map, get_or, set}
use Rattle.std.proofs.Common.{count_by, Some, slice_get, Contains, AllPairs, IsPermutation, swap}
use Rattle.std.proofs.lemmas.List.{map-set, get_or-map, length-map}
use Rattle.std.proofs.lemmas.List.Sorted.{IsPermutation-refl, IsPermutation-trans}
use Rattle.std.proofs.lemmas.List.Sorted.{IsPermutation-swap, IsPermutation-keeps}
use Rattle.std.specs.Cmp.{first_so, second_so}
use Rattle.std.proofs.lemmas.Bool.{and_from}
use Rattle.regatta_scores.proofs.Counts.{count_cons}
use Rattle.regatta_scores.proofs.Sorting.{pairs_first, pairs_rest}

pub contains_later : {X : Type 0} (x : X) (xs : List X) (y : X) → Contains xs y →
    Contains (x ∷ xs) y
contains_later x xs y has = (suc has.0, omega (arith, has.1), has.2)

-- ---- lists that match, item by item

pub same_at_each : {A X : Type 0} (races : List A) (xs ys : List X) → length xs ≡ length races →
    length ys ≡ length races →
    ((i : ℕ) (a : A) (x y : X) → slice_get races i ≡ Some a → slice_get xs i ≡ Some x →
    slice_get ys i ≡ Some y → x ≡ y) → xs ≡ ys
same_at_each [] [] [] e f each = refl
same_at_each [] [] (y ∷ ys) e f each = absurd (omega (arith, f))
same_at_each [] (x ∷ xs) ys e f each = absurd (omega (arith, e))
same_at_each (a ∷ races) [] ys e f each = absurd (omega (arith, e))
same_at_each (a ∷ races) (x ∷ xs) [] e f each = absurd (omega (arith, f))
same_at_each (a ∷ races) (x ∷ xs) (y ∷ ys) e f each =
    let here : x ≡ y = each zero a x y refl refl refl in
    let rest : xs ≡ ys = same_at_each races xs ys (omega (arith, e)) (omega (arith, f))
    (λ i b z w at_a at_x at_y. each (suc i) b z w at_a at_x at_y) in
    λ i. here i ∷ rest i

abbrev tail : {X : Type 0} → List X → List X
tail [] = []
tail (z ∷ zs) = zs

-- rows that have the same key are the same
pub same_by_key : {X K : Type 0} (key : X → K) (xs ys : List X) → map key xs ≡ map key ys →
    ((x y : X) → Contains xs x → Contains ys y → key x ≡ key y → x ≡ y) → xs ≡ ys
same_by_key key [] [] e each = refl
same_by_key key [] (y ∷ ys) e each = absurd (omega (arith, ap length e))
same_by_key key (x ∷ xs) [] e each = absurd (omega (arith, ap length e))
same_by_key key (x ∷ xs) (y ∷ ys) e each =
    let first : key x ≡ key y = ap (λ ks. get_or ks zero (key x)) e in
    let here : x ≡ y = each x y (zero, omega arith, refl) (zero, omega arith, refl) first in
    let rest : xs ≡ ys = same_by_key key xs ys (ap tail e)
    (λ z w has_z has_w same. each z w (contains_later x xs z has_z) (contains_later y ys w has_w) same) in
    λ i. here i ∷ rest i

-- ---- a count of rows that match others

pub count_matched : {X K : Type 0} (key : X → K) (p q : X → Bool) (xs ys : List X) →
    map key xs ≡ map key ys →
    ((x y : X) → Contains xs x → Contains ys y → key x ≡ key y → p x ≡ q y) →
    count_by p xs ≡ count_by q ys
count_matched key p q [] [] e each = refl
count_matched key p q [] (y ∷ ys) e each = absurd (omega (arith, ap length e))
count_matched key p q (x ∷ xs) [] e each = absurd (omega (arith, ap length e))
count_matched key p q (x ∷ xs) (y ∷ ys) e each =
    let first : key x ≡ key y = ap (λ ks. get_or ks zero (key x)) e in
    let here : ◌≡◌ {A = ℕ} (cond (p x) 1 0) (cond (q y) 1 0) =
    ap (λ b. cond b 1 0) (each x y (zero, omega arith, refl) (zero, omega arith, refl) first) in
    omega (
      arith,
      count_cons p x xs,
      count_cons q y ys,
      here,
      count_matched key p q xs ys (ap tail e) (λ z w has_z has_w same.
          each z w (contains_later x xs z has_z) (contains_later y ys w has_w) same),
    )

-- ---- a permutation of keys is one of rows

map_swap : {X K : Type 0} (key : X → K) (xs : List X) (i j : ℕ) → i < length xs → j < length xs →
    map key (swap xs i j) ≡ swap (map key xs) i j
map_swap key [] i j h k = refl
map_swap {X} {K} key (x ∷ xs) i j h k =
    let l = x ∷ xs in
    map-set' (set l i (get_or l j x)) j (get_or l i x)
    ∙ (λ t. set (map-set' l i (get_or l j x) t) j (key (get_or l i x)))
    ∙ (λ t. set (set (map key l) i (sym (get_or-map key l j x (key x) k) t)) j
    (sym (get_or-map key l i x (key x) h) t))
  where
    map-set' : (l : List X) (i : ℕ) (a : X) → map key (set l i a) ≡ set (map key l) i (key a)
    map-set' = map-set key

pub permuted_rows : {X K : Type 0} (key : X → K) (xs : List X) (ks : List K) →
    IsPermutation (map key xs) ks → (ys : List X) × IsPermutation xs ys × (map key ys ≡ ks)
permuted_rows {X} {K} key xs ks moved =
    IsPermutation-keeps (map key xs)
    (λ l. (ys : List X) × IsPermutation xs ys × (map key ys ≡ l))
    (xs, IsPermutation-refl xs, refl)
    (λ l i j h k so_far.
    let ys = so_far.0 in
    let long : length ys ≡ length l = sym (length-map ys key) ∙ ap length so_far.2 in
    let in_i : i < length ys = omega (arith, long, h) in
    let in_j : j < length ys = omega (arith, long, k) in (
      swap ys i j,
      IsPermutation-trans xs ys (swap ys i j) so_far.1 (IsPermutation-swap ys (swap ys i j) i j in_i in_j refl),
      map_swap key ys i j in_i in_j ∙ ap (λ m. swap m i j) so_far.2,
    ))
    ks moved

-- ---- sorted lists

pub pairs_map : {X K : Type 0} (key : X → K) (R : K → K → Type 0) (xs : List X) →
    AllPairs (λ a b. R (key a) (key b)) xs → AllPairs R (map key xs)
pairs_map key R [] pairs i j d apart within = absurd (omega arith)
pairs_map key R (x ∷ xs) pairs i j d apart within =
    let long : length (map key (x ∷ xs)) ≡ length (x ∷ xs) = length-map (x ∷ xs) key in
    let in_j : j < length (x ∷ xs) = omega (arith, long, within) in
    let in_i : i < length (x ∷ xs) = omega (arith, in_j, apart) in
    rw (get_or-map key (x ∷ xs) i x d in_i, get_or-map key (x ∷ xs) j x d in_j)
    (pairs i j x apart in_j)

-- a test that passes an item of the list counts at least one
has_one : {X : Type 0} (p : X → Bool) (x : X) (xs : List X) → p x ≡ true → 1 ≤ count_by p (x ∷ xs)
has_one p x xs e =
    let one : ◌≡◌ {A = ℕ} (cond (p x) 1 0) 1 = ap (λ b. cond b 1 0) e in
    omega (arith, count_cons p x xs, one)

one_has : {X : Type 0} (p : X → Bool) (xs : List X) → 1 ≤ count_by p xs →
    (x : X) × Contains xs x × (p x ≡ true)
one_has p [] some = absurd (omega (arith, some))
one_has {X} p (x ∷ xs) some = by (p x) refl (one_has p xs)
  where
    by : (b : Bool) → p x ≡ b →
        (1 ≤ count_by p xs → (y : X) × Contains xs y × (p y ≡ true)) →
        (y : X) × Contains (x ∷ xs) y × (p y ≡ true)
    by true e rest = (x, (zero, omega arith, refl), e)
    by false e rest =
        let none : ◌≡◌ {A = ℕ} (cond (p x) 1 0) 0 = ap (λ b. cond b 1 0) e in
        let found = rest (omega (arith, some, count_cons p x xs, none)) in
        (found.0, contains_later x xs found.0 found.1, found.2)

-- two sorted lists in which each test counts alike are the same
module _ {X : Type 0} (R : X → X → Bool) (itself : (x : X) → R x x ≡ true)
    (one : (x y : X) → R x y ≡ true → R y x ≡ true → x ≡ y) where
  first_before : (x : X) (xs : List X) → AllPairs (λ a b. R a b ≡ true) (x ∷ xs) → (y : X) →
      Contains (x ∷ xs) y → R x y ≡ true
  first_before x xs pairs y has = by has.0 has.1 has.2
    where
      by : (k : ℕ) → k < length (x ∷ xs) → get_or (x ∷ xs) k y ≡ y → R x y ≡ true
      by zero within at = ap (R x) (sym at) ∙ itself x
      by (suc k) within at =
          ap (R x) (sym at) ∙ pairs_first (λ a b. R a b ≡ true) x xs pairs k y (omega (arith, within))

  pub sorted_alike : (xs ys : List X) → AllPairs (λ a b. R a b ≡ true) xs →
      AllPairs (λ a b. R a b ≡ true) ys →
      ((p : X → Bool) → count_by p xs ≡ count_by p ys) → xs ≡ ys
  sorted_alike [] [] up_x up_y same = refl
  sorted_alike [] (y ∷ ys) up_x up_y same =
      let some = has_one (R y) y ys (itself y) in
      absurd (omega (arith, same (R y), some))
  sorted_alike (x ∷ xs) [] up_x up_y same =
      let some = has_one (R x) x xs (itself x) in
      absurd (omega (arith, same (R x), some))
  sorted_alike (x ∷ xs) (y ∷ ys) up_x up_y same =
      let is = λ (z w : X). R z w && R w z in
      let in_y = one_has (is x) (y ∷ ys)
      (let some = has_one (is x) x xs (and_from (R x x) (R x x) (itself x) (itself x)) in
      omega (arith, same (is x), some)) in
      let in_x = one_has (is y) (x ∷ xs)
      (let some = has_one (is y) y ys (and_from (R y y) (R y y) (itself y) (itself y)) in
      omega (arith, same (is y), some)) in
      let same_x : x ≡ in_y.0 = one x in_y.0 (first_so (R x in_y.0) (R in_y.0 x) in_y.2)
      (second_so (R x in_y.0) (R in_y.0 x) in_y.2) in
      let same_y : y ≡ in_x.0 = one y in_x.0 (first_so (R y in_x.0) (R in_x.0 y) in_x.2)
      (second_so (R y in_x.0) (R in_x.0 y) in_x.2) in
      let y_first : R y x ≡ true =
      ap (R y) same_x ∙ first_before y ys up_y in_y.0 in_y.1 in
      let x_first : R x y ≡ true =
      ap (R x) same_y ∙ first_before x xs up_x in_x.0 in_x.1 in
      let here : x ≡ y = one x y x_first y_first in
      let rest : xs ≡ ys = sorted_alike xs ys
      (pairs_rest (λ a b. R a b ≡ true) x xs up_x)
      (pairs_rest (λ a b. R a b ≡ true) y ys up_y)
      (λ p. let one_here : ◌≡◌ {A = ℕ} (cond (p x) 1 0) (cond (p y) 1 0) =
      ap (λ z. cond (p z) 1 0) here in
      omega (arith, same p, count_cons p x xs, count_cons p y ys, one_here)) in
      λ i. here i ∷ rest i
