-- The cells of a row by the numbers of their races.
use Rattle.std.proofs.Common.{◌≡◌, ℕ, zero, suc, ◌<◌, ◌≤◌, Bool, true, false, not, ◌&&◌, List}
use Rattle.std.proofs.Common.{[], ◌∷◌, ◌++◌, refl, ap, subst, arith, length, filter, take}
use Rattle.std.proofs.Common.{drop, remove, zip, get_or, nat_eq, nat_lt, slice_get, Some, Contains}
use Rattle.std.specs.List.{AllByRecursion, AllZip}
use Rattle.std.proofs.lemmas.Bool.{false_from_ne_true}
use Rattle.std.proofs.lemmas.Option.{same_Some}
use borrow.Author.Tests.{eqb-true, eq-eqb, ltb-true, lt-ltb}
use Rattle.regatta_scores.specs.declared.table.Cell.{Cell}
use Rattle.regatta_scores.proofs.SameLists.{contains_later}
use Rattle.regatta_scores.proofs.TiedTimes.{Rises}

-- ---- a race and its cell, by their place

pub contains_zip : {A B : Type 0} (xs : List A) (ys : List B) (i : ℕ) (x : A) (y : B) →
    slice_get xs i ≡ Some x → slice_get ys i ≡ Some y → Contains (zip xs ys) (x, y)
contains_zip [] ys i x y at_x at_y = cc
contains_zip (a ∷ xs) [] i x y at_x at_y = cc
contains_zip (a ∷ xs) (b ∷ ys) zero x y at_x at_y =
    (zero, omega arith, λ k. (same_Some a x at_x k, same_Some b y at_y k))
contains_zip (a ∷ xs) (b ∷ ys) (suc i) x y at_x at_y =
    contains_later (a, b) (zip xs ys) (x, y) (contains_zip xs ys i x y at_x at_y)

pub zip_contains : {A B : Type 0} (xs : List A) (ys : List B) (x : A) (y : B) →
    Contains (zip xs ys) (x, y) → (i : ℕ) × (slice_get xs i ≡ Some x) × (slice_get ys i ≡ Some y)
zip_contains [] ys x y has = absurd (omega (arith, has.1))
zip_contains (a ∷ xs) [] x y has = absurd (omega (arith, has.1))
zip_contains {A} {B} (a ∷ xs) (b ∷ ys) x y has = by has.0 has.1 has.2 (zip_contains xs ys x y)
  where
    by : (k : ℕ) → k < length (zip (a ∷ xs) (b ∷ ys)) →
        get_or (zip (a ∷ xs) (b ∷ ys)) k (x, y) ≡ (x, y) →
        (Contains (zip xs ys) (x, y) →
        (i : ℕ) × (slice_get xs i ≡ Some x) × (slice_get ys i ≡ Some y)) →
        (i : ℕ) × (slice_get (a ∷ xs) i ≡ Some x) × (slice_get (b ∷ ys) i ≡ Some y)
    by zero within at rest =
        (zero, ap (λ (p : A × B). Some p.0) at, ap (λ (p : A × B). Some p.1) at)
    by (suc k) within at rest =
        let found = rest (k, omega (arith, within), at) in
        (suc found.0, found.1, found.2)

-- ---- two lists, item by item

module _ {A B : Type 0} (R : A → B → Type 0) where
  pub zip_take : (n : ℕ) (xs : List A) (ys : List B) → AllZip R xs ys →
      AllZip R (take n xs) (take n ys)
  zip_take zero xs ys each = tt
  zip_take (suc n) [] [] each = tt
  zip_take (suc n) [] (y ∷ ys) each = each
  zip_take (suc n) (x ∷ xs) [] each = each
  zip_take (suc n) (x ∷ xs) (y ∷ ys) each = (each.0, zip_take n xs ys each.1)

  zip_drop : (n : ℕ) (xs : List A) (ys : List B) → AllZip R xs ys →
      AllZip R (drop n xs) (drop n ys)
  zip_drop zero xs ys each = each
  zip_drop (suc n) [] [] each = tt
  zip_drop (suc n) [] (y ∷ ys) each = absurd each
  zip_drop (suc n) (x ∷ xs) [] each = absurd each
  zip_drop (suc n) (x ∷ xs) (y ∷ ys) each = zip_drop n xs ys each.1

  zip_append : (xs us : List A) (ys vs : List B) → AllZip R xs ys → AllZip R us vs →
      AllZip R (xs ++ us) (ys ++ vs)
  zip_append [] us [] vs each more = more
  zip_append [] us (y ∷ ys) vs each more = absurd each
  zip_append (x ∷ xs) us [] vs each more = absurd each
  zip_append (x ∷ xs) us (y ∷ ys) vs each more = (each.0, zip_append xs us ys vs each.1 more)

  pub zip_remove : (i : ℕ) (xs : List A) (ys : List B) → AllZip R xs ys →
      AllZip R (remove xs i) (remove ys i)
  zip_remove i xs ys each =
      zip_append (take i xs) (drop (suc i) xs) (take i ys) (drop (suc i) ys)
      (zip_take i xs ys each) (zip_drop (suc i) xs ys each)

-- ---- rising numbers

all_then : {X : Type 0} (P Q : X → Type 0) → ((x : X) → P x → Q x) → (xs : List X) →
    AllByRecursion P xs → AllByRecursion Q xs
all_then P Q f [] all = tt
all_then P Q f (x ∷ xs) all = (f x all.0, all_then P Q f xs all.1)

all_get : {X : Type 0} (P : X → Type 0) (xs : List X) (i : ℕ) (x : X) → AllByRecursion P xs →
    slice_get xs i ≡ Some x → P x
all_get P [] i x all at = cc
all_get P (y ∷ ys) zero x all at = subst P (same_Some y x at) all.0
all_get P (y ∷ ys) (suc i) x all at = all_get P ys i x all.1 at

pub rises_at : (xs : List ℕ) → Rises xs → (i j x y : ℕ) → i < j → slice_get xs i ≡ Some x →
    slice_get xs j ≡ Some y → x < y
rises_at [] rises i j x y apart at_x at_y = cc
rises_at (z ∷ zs) rises i zero x y apart at_x at_y = absurd (omega (arith, apart))
rises_at (z ∷ zs) rises zero (suc j) x y apart at_x at_y =
    subst (λ n. n < y) (same_Some z x at_x) (all_get (λ n. z < n) zs j y rises.0 at_y)
rises_at (z ∷ zs) rises (suc i) (suc j) x y apart at_x at_y =
    rises_at zs rises.1 i j x y (omega (arith, apart)) at_x at_y

not_under : (m n : ℕ) → n ≤ m → nat_lt m n ≡ false
not_under m n over =
    false_from_ne_true _ (λ e. (let less = ltb-true m n e in omega (arith, less, over)))

not_one : (m n : ℕ) → n < m → not (nat_eq m n) ≡ true
not_one m n over =
    let other = false_from_ne_true (nat_eq m n)
    (λ e. (let same = eqb-true m n e in omega (arith, same, over))) in
    ap not other

not_other : (m n : ℕ) → m < n → not (nat_eq m n) ≡ true
not_other m n under =
    let other = false_from_ne_true (nat_eq m n)
    (λ e. (let same = eqb-true m n e in omega (arith, same, under))) in
    ap not other

-- ---- the races that pass a test

none_pass : (p : ℕ → Bool) (races : List ℕ) (cells : List Cell) →
    AllByRecursion (λ race. p race ≡ false) races → filter (λ r. p r.0) (zip races cells) ≡ []
none_pass p [] cells all = refl
none_pass p (race ∷ races) [] all = refl
none_pass p (race ∷ races) (cell ∷ cells) all = rw all.0 (none_pass p races cells all.1)

all_pass : (p : ℕ → Bool) (races : List ℕ) (cells : List Cell) →
    AllByRecursion (λ race. p race ≡ true) races →
    filter (λ r. p r.0) (zip races cells) ≡ zip races cells
all_pass p [] cells all = refl
all_pass p (race ∷ races) [] all = refl
all_pass p (race ∷ races) (cell ∷ cells) all =
    rw all.0 (ap (λ rest. (race, cell) ∷ rest) (all_pass p races cells all.1))

pub before_are : (races : List ℕ) (cells : List Cell) → Rises races →
    length cells ≡ length races → (i race : ℕ) → slice_get races i ≡ Some race →
    filter (λ r. nat_lt r.0 race) (zip races cells) ≡ take i (zip races cells)
before_are [] cells rises long i race at = cc
before_are (x ∷ xs) [] rises long i race at = absurd (omega (arith, long))
before_are (x ∷ xs) (c ∷ cs) rises long zero race at =
    let here : x ≡ race = same_Some x race at in
    let first : nat_lt x race ≡ false = not_under x race (omega (arith, here)) in
    rw first (none_pass (λ n. nat_lt n race) xs cs
    (all_then (λ n. x < n) (λ n. nat_lt n race ≡ false)
    (λ n over. not_under n race (omega (arith, over, here))) xs rises.0))
before_are (x ∷ xs) (c ∷ cs) rises long (suc i) race at =
    let first : nat_lt x race ≡ true = lt-ltb x race (all_get (λ n. x < n) xs i race rises.0 at) in
    rw first (ap (λ rest. (x, c) ∷ rest)
    (before_are xs cs rises.1 (omega (arith, long)) i race at))

pub others_are : (races : List ℕ) (cells : List Cell) → Rises races →
    length cells ≡ length races → (i race : ℕ) → slice_get races i ≡ Some race →
    filter (λ r. not (nat_eq r.0 race)) (zip races cells) ≡ remove (zip races cells) i
others_are [] cells rises long i race at = cc
others_are (x ∷ xs) [] rises long i race at = absurd (omega (arith, long))
others_are (x ∷ xs) (c ∷ cs) rises long zero race at =
    let here : x ≡ race = same_Some x race at in
    let first : not (nat_eq x race) ≡ false = ap not (eq-eqb x race here) in
    rw first (all_pass (λ n. not (nat_eq n race)) xs cs
    (all_then (λ n. x < n) (λ n. not (nat_eq n race) ≡ true)
    (λ n over. not_one n race (omega (arith, over, here))) xs rises.0))
others_are (x ∷ xs) (c ∷ cs) rises long (suc i) race at =
    let first : not (nat_eq x race) ≡ true =
    not_other x race (all_get (λ n. x < n) xs i race rises.0 at) in
    rw first (ap (λ rest. (x, c) ∷ rest)
    (others_are xs cs rises.1 (omega (arith, long)) i race at))

-- those that pass one test, and then another
pub both_pass : {X : Type 0} (p q : X → Bool) (xs : List X) →
    filter (λ x. p x && q x) xs ≡ filter q (filter p xs)
both_pass p q [] = refl
both_pass p q (x ∷ xs) = by (p x) (q x) refl refl (both_pass p q xs)
  where
    by : (s t : Bool) → p x ≡ s → q x ≡ t →
        filter (λ x. p x && q x) xs ≡ filter q (filter p xs) →
        filter (λ x. p x && q x) (x ∷ xs) ≡ filter q (filter p (x ∷ xs))
    by true true e f rest = rw (e, f) (ap (λ ys. x ∷ ys) rest)
    by true false e f rest = rw (e, f) rest
    by false t e f rest = rw e rest
