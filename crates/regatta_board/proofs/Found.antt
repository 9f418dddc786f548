-- A boat is entered if and only if her number is below the number of boats; it is then her position.
use Rattle.std.proofs.Common.{◌≡◌, ℕ, ◌+◌, Bool, true, false, cond, not, ◌||◌, List, [], ◌∷◌, refl}
use Rattle.std.proofs.Common.{◌∙◌, ◌++◌, ap, suc, arith, length, length-append, nat_lt, Some}
use Rattle.std.proofs.Common.{◌<◌, ◌≤◌, sym, None}
use Rattle.std.specs.List.{list_any, position, position_or_len}
use Rattle.std.proofs.lemmas.Bool.{ltb-true, ltb-false}
use Rattle.std.proofs.lemmas.Bool.Decides.{nat_tests}
use Rattle.std.proofs.lemmas.List.Sums.{prefix_len-le-length}
use borrow.Author.Tests.{lt-ltb}

-- a test of two numbers is that of the next ones
pub next_test : (a n : ℕ) → nat_lt (1 + a) (suc n) ≡ nat_lt a n
next_test a n = grind (arith, nat_tests)

-- an element passes if and only if the index of the first that does is below the length
pub passes : {X : Type 0} (p : X → Bool) (xs : List X)
    → nat_lt (position_or_len p xs) (length xs) ≡ list_any p xs
passes p [] = refl
passes p (z ∷ zs) = by (p z) (passes p zs)
  where
    by : (b : Bool) → nat_lt (position_or_len p zs) (length zs) ≡ list_any p zs
        → nat_lt (cond (not b) (1 + position_or_len p zs) 0) (length (z ∷ zs))
        ≡ (b || list_any p zs)
    by true rest = lt-ltb 0 (length (z ∷ zs)) (omega arith)
    by false rest = next_test (position_or_len p zs) (length zs) ∙ rest

-- the index of an element that passes, if there is one, is its position
pub found : {X : Type 0} (p : X → Bool) (xs : List X) → list_any p xs ≡ true
    → position p xs ≡ Some (position_or_len p xs)
found p xs h = ap (λ b. cond b (Some (position_or_len p xs)) None) (passes p xs ∙ h)

-- an element that passes, put at the end, doesn't change the index of the first that does
index_more : {X : Type 0} (p : X → Bool) (xs : List X) (x : X) → p x ≡ true
    → position_or_len p (xs ++ x ∷ []) ≡ position_or_len p xs
index_more p [] x h = rw h refl
index_more p (z ∷ zs) x h = ap (λ n. cond (not (p z)) (1 + n) 0) (index_more p zs x h)

-- and it is found
pub found_more : {X : Type 0} (p : X → Bool) (xs : List X) (x : X) → p x ≡ true
    → position p (xs ++ x ∷ []) ≡ Some (position_or_len p xs)
found_more p xs x h = let within : nat_lt (position_or_len p (xs ++ x ∷ []))
    (length (xs ++ x ∷ [])) ≡ true = lt-ltb _ _
    (omega (
      arith,
      index_more p xs x h,
      length-append xs (x ∷ []),
      prefix_len-le-length (λ y. not (p y)) xs,
    )) in
    λ i. cond (within i) (Some (index_more p xs x h i)) None

-- an element at a position passes, and her index is below the length
pub at_position : {X : Type 0} (p : X → Bool) (xs : List X) (at : ℕ) → position p xs ≡ Some at
    → (list_any p xs ≡ true) × (at ≡ position_or_len p xs) × (at < length xs)
at_position p xs at e = by (nat_lt (position_or_len p xs) (length xs)) refl e
  where
    by : (b : Bool) → nat_lt (position_or_len p xs) (length xs) ≡ b
        → cond b (Some (position_or_len p xs)) None ≡ Some at
        → (list_any p xs ≡ true) × (at ≡ position_or_len p xs) × (at < length xs)
    by true f h =
        let same : at ≡ position_or_len p xs = cc in
        (sym (passes p xs) ∙ f, same, rw same (ltb-true _ _ f))
    by false f h = absurd (cc)

-- without a position nothing passes
pub no_position : {X : Type 0} (p : X → Bool) (xs : List X) → position p xs ≡ None
    → list_any p xs ≡ false
no_position p xs e = by (nat_lt (position_or_len p xs) (length xs)) refl e
  where
    by : (b : Bool) → nat_lt (position_or_len p xs) (length xs) ≡ b
        → cond b (Some (position_or_len p xs)) None ≡ None → list_any p xs ≡ false
    by true f h = absurd (cc)
    by false f h = sym (passes p xs) ∙ f

-- if no element passes, the index of the first that does is past the end
pub index_past : {X : Type 0} (p : X → Bool) (xs : List X) → list_any p xs ≡ false
    → length xs ≡ position_or_len p xs
index_past p xs none =
    let above : length xs ≤ position_or_len p xs = ltb-false _ _ (passes p xs ∙ none) in
    omega (arith, above, prefix_len-le-length (λ x. not (p x)) xs)
