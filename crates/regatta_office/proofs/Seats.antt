-- How many passes come back.
use Rattle.std.proofs.Common.{◌≡◌, ◌∙◌, ℕ, List, Result, Ok, Err, IfOk, length, map, sym}
use Rattle.std.proofs.lemmas.List.{length-map}
use Rattle.std.proofs.lemmas.List.Sorted.{length_permutation}
use Rattle.std.specs.List.Sorted.{IsPermutation}

-- as many as were given, if their seats are those in another order
pub as_many : {P : Type 0} (f : P → ℕ) (xs ys : List P) → IsPermutation (map f xs) (map f ys)
    → length ys ≡ length xs
as_many f xs ys same =
    sym (length-map ys f) ∙ length_permutation (map f xs) (map f ys) same ∙ length-map xs f

-- what holds of a value, and what follows from it
pub if_ok : {A E : Type 0} {P Q : A → Type 0} → (r : Result A E) → ((x : A) → P x → Q x)
    → IfOk r P → IfOk r Q
if_ok (Ok x) f p = f x p
if_ok (Err e) f p = tt
