-- `==` of scores and flags is equality.
use Rattle.std.proofs.Common.{◌≡◌, ℕ, Bool, true, false, List, [], ◌∷◌, refl}
use Rattle.std.specs.Cmp.{first_so, second_so}
use Rattle.std.specs.Prelude.{◌==◌}
use Rattle.std.specs.Cmp.Lexicographic.{pointwise}
use Rattle.std.proofs.lemmas.Bool.Decides.{Decides-eqb}

pub number_one : (m n : ℕ) → (m == n) ≡ true → m ≡ n
number_one m n h = (Decides-eqb m n).0 h

pub bool_one : (a b : Bool) → mathlib.Core.Bool.beq a b ≡ true → a ≡ b
bool_one true true h = refl
bool_one true false h = absurd (cc)
bool_one false true h = absurd (cc)
bool_one false false h = refl

-- lists are equal if their items are, one by one
pub pointwise_one : {X : Type 0} (same : X → X → Bool) → ((x y : X) → same x y ≡ true → x ≡ y) →
    (xs ys : List X) → pointwise same xs ys ≡ true → xs ≡ ys
pointwise_one same one [] [] h = refl
pointwise_one same one [] (y ∷ ys) h = absurd (cc)
pointwise_one same one (x ∷ xs) [] h = absurd (cc)
pointwise_one same one (x ∷ xs) (y ∷ ys) h =
    let here = one x y (first_so (same x y) (pointwise same xs ys) h) in
    let rest = pointwise_one same one xs ys (second_so (same x y) (pointwise same xs ys) h) in
    λ i. here i ∷ rest i
