-- Counts and searches over the members of a list.
use Rattle.std.proofs.Common.{◌≡◌, ℕ, zero, suc, ◌<◌, ◌≤◌, Bool, true, false, cond, ◌&&◌, ◌⊎◌, List}
use Rattle.std.proofs.Common.{[], ◌∷◌, refl, ap, ◌∙◌, sym, arith, length, get_or, map, count_by}
use Rattle.std.proofs.Common.{nat_lt, All, Contains, filter}
use Rattle.std.specs.List.{AllByRecursion}
use mathlib.Core.Logic.{inl, inr}
use Rattle.std.specs.Cmp.{both_ways}
use Rattle.std.proofs.Math.Path.{subst}
use Rattle.std.proofs.lemmas.List.{get_or-map, length-map}
use borrow.Author.Tests.{ltb-true, lt-ltb}
use Rattle.regatta_scores.proofs.Counts.{count_cons}

-- ---- tests

pub upto_one : (b : Bool) → ◌≤◌ (cond b 1 0) 1
upto_one true = omega arith
upto_one false = omega arith

pub and_same : (a p q : Bool) → (a ≡ true → p ≡ q) → (a && p) ≡ (a && q)
and_same true p q same = same refl
and_same false p q same = refl

pub second_not : (a b : Bool) → a ≡ true → (a && b) ≡ false → b ≡ false
second_not true b e h = h
second_not false b e h = cc

pub lt_same : (a b c d : ℕ) → (a < b → c < d) → (c < d → a < b) → nat_lt a b ≡ nat_lt c d
lt_same a b c d there back =
    both_ways (nat_lt a b) (nat_lt c d) (λ e. lt-ltb c d (there (ltb-true a b e)))
    (λ e. lt-ltb a b (back (ltb-true c d e)))

-- ---- members

member_cons : {X : Type 0} (x : X) (xs : List X) (y : X) → Contains xs y → Contains (x ∷ xs) y
member_cons x xs y has = (suc has.0, omega (arith, has.1), has.2)

pub member_map : {X Y : Type 0} (f : X → Y) (xs : List X) (x : X) → Contains xs x →
    Contains (map f xs) (f x)
member_map f xs x has =
    (has.0, rw length-map has.1, get_or-map f xs has.0 x (f x) has.1 ∙ ap f has.2)

pub all_at : {X : Type 0} (P : X → Type 0) (xs : List X) (x : X) → All P xs → Contains xs x → P x
all_at P xs x each has = subst P has.2 (each has.0 x has.1)

-- ---- counts

pub count_members : {X : Type 0} (p q : X → Bool) (xs : List X) →
    ((x : X) → Contains xs x → p x ≡ q x) → count_by p xs ≡ count_by q xs
count_members p q [] same = refl
count_members p q (x ∷ xs) same =
    let here : ◌≡◌ {A = ℕ} (cond (p x) 1 0) (cond (q x) 1 0) =
    ap (λ b. cond b 1 0) (same x (zero, omega arith, refl)) in
    omega (
      arith,
      count_cons p x xs,
      count_cons q x xs,
      here,
      count_members p q xs (λ y has. same y (member_cons x xs y has)),
    )

pub count_all : {X : Type 0} (p : X → Bool) (xs : List X) → ((x : X) → Contains xs x → p x ≡ true) →
    count_by p xs ≡ length xs
count_all p [] each = refl
count_all p (x ∷ xs) each =
    let here : ◌≡◌ {A = ℕ} (cond (p x) 1 0) 1 = rw (each x (zero, omega arith, refl)) refl in
    omega (
      arith,
      count_cons p x xs,
      here,
      count_all p xs (λ y has. each y (member_cons x xs y has)),
    )

-- a test that passes only if another does counts no more
pub le_by : (a b : Bool) → (a ≡ true → b ≡ true) → cond a 1 0 ≤ cond b 1 0
le_by true b h = rw (h refl) (omega arith)
le_by false b h = omega arith

pub count_le : {X : Type 0} (p q : X → Bool) → ((x : X) → p x ≡ true → q x ≡ true) → (xs : List X) →
    count_by p xs ≤ count_by q xs
count_le p q h [] = omega arith
count_le p q h (x ∷ xs) =
    omega (arith, count_cons p x xs, count_cons q x xs, le_by (p x) (q x) (h x), count_le p q h xs)

-- ---- a member that passes, or none

not_at : {X : Type 0} (p : X → Bool) (x : X) (xs : List X) → p x ≡ false →
    ((y : X) → Contains xs y → p y ≡ false) → (y : X) (k : ℕ) → k < length (x ∷ xs) →
    get_or (x ∷ xs) k y ≡ y → p y ≡ false
not_at p x xs here rest y zero within e = ap p (sym e) ∙ here
not_at p x xs here rest y (suc k) within e = rest y (k, omega arith, e)

pub some_or_none : {X : Type 0} (p : X → Bool) (xs : List X) →
    ((x : X) × Contains xs x × (p x ≡ true)) ⊎ ((x : X) → Contains xs x → p x ≡ false)
some_or_none p [] = inr (λ x has. absurd (omega (arith, has.1)))
some_or_none {X} p (x ∷ xs) = by (p x) refl (some_or_none p xs)
  where
    by : (b : Bool) → p x ≡ b → ((y : X) × Contains xs y × (p y ≡ true))
        ⊎ ((y : X) → Contains xs y → p y ≡ false) → ((y : X) × Contains (x ∷ xs) y × (p y ≡ true))
        ⊎ ((y : X) → Contains (x ∷ xs) y → p y ≡ false)
    by true e rest = inl (x, (zero, omega arith, refl), e)
    by false e (inl found) = inl (found.0, member_cons x xs found.0 found.1, found.2)
    by false e (inr none) = inr (λ y has. not_at p x xs e none y has.0 has.1 has.2)

-- ---- filtering

-- filtering keeps what holds for each element
pub all_passed : {X : Type 0} (P : X → Type 0) (p : X → Bool) (xs : List X) →
    AllByRecursion P xs → AllByRecursion P (filter p xs)
all_passed P p [] all = tt
all_passed P p (x ∷ xs) all = by (p x) (all_passed P p xs all.1)
  where
    by : (t : Bool) → AllByRecursion P (filter p xs) →
        AllByRecursion P (cond t (x ∷ filter p xs) (filter p xs))
    by true rest = (all.0, rest)
    by false rest = rest

-- and each element left has what follows from the test
pub those_passed : {X : Type 0} (P : X → Type 0) (p : X → Bool) → ((x : X) → p x ≡ true → P x) →
    (xs : List X) → AllByRecursion P (filter p xs)
those_passed P p holds [] = tt
those_passed P p holds (x ∷ xs) = by (p x) refl (those_passed P p holds xs)
  where
    by : (t : Bool) → p x ≡ t → AllByRecursion P (filter p xs) →
        AllByRecursion P (cond t (x ∷ filter p xs) (filter p xs))
    by true e rest = (holds x e, rest)
    by false e rest = rest
