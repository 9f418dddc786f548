-- Boats and their numbers in the entry list.
use Rattle.std.proofs.Common.{◌≡◌, ℕ, zero, suc, ◌+◌, false}
use Rattle.std.proofs.Common.{List, [], ◌∷◌, ◌++◌, refl, ap, ◌∙◌, arith, length}
use Rattle.std.proofs.Common.{slice_get, Option, Some, None, is_some}
use Rattle.std.specs.List.{AllZip, list_any}
use Rattle.std.specs.Map.{keys_of, lookup}
use Rattle.std.proofs.lemmas.List.{map-append}
use Rattle.std.proofs.lemmas.Map.Made.{is_some-lookup}
use Rattle.regatta_scores.specs.Journal.{same_sail}
use Rattle.regatta_terms.specs.declared.sail.Sail.{Sail}
use Rattle.regatta_board.specs.EntryList.{IsNumbered}

abbrev number_in : Option (Sail × ℕ) → ℕ
number_in (Some x) = x.1
number_in None = 0

-- one more boat takes the next number
more_from : (es : List (Sail × ℕ)) (a n : ℕ) (last : Sail) → n ≡ a + length es
    → ((index : ℕ) (boat : Sail) (k : ℕ) → slice_get es index ≡ Some (boat, k) → k ≡ a + index)
    → (index : ℕ) (boat : Sail) (k : ℕ) → slice_get (es ++ (last, n) ∷ []) index ≡ Some (boat, k)
    → k ≡ a + index
more_from [] a n last e is zero boat k at =
    (let same : n ≡ k = ap (λ (o : Option (Sail × ℕ)). number_in o) at in omega (arith, e, same))
more_from [] a n last e is (suc index) boat k at = absurd (cc)
more_from (x ∷ es) a n last e is zero boat k at = is zero boat k at
more_from (x ∷ es) a n last e is (suc index) boat k at =
    let rest = more_from es (a + 1) n last (omega (arith, e))
    (λ p b m h. (let here = is (suc p) b m h in omega (arith, here))) index boat k at in
    omega (arith, rest)

pub numbered_more : (es : List (Sail × ℕ)) (last : Sail) (n : ℕ) → n ≡ length es → IsNumbered es
    → IsNumbered (es ++ (last, n) ∷ [])
numbered_more es last n e is index boat k at =
    let rest = more_from es 0 n last (omega (arith, e))
    (λ p b m h. (let here = is p b m h in omega (arith, here))) index boat k at in
    omega (arith, rest)

-- a clone of the entries equals them, if clones of keys and values do
pub entries_cloned : {C : Sail → Sail → Type 0} {D : ℕ → ℕ → Type 0}
    → ((x y : Sail) → C x y → y ≡ x) → ((x y : ℕ) → D x y → y ≡ x) → (es fs : List (Sail × ℕ))
    → AllZip (λ p q. C p.0 q.0 × D p.1 q.1) es fs → fs ≡ es
entries_cloned c d [] [] all = refl
entries_cloned c d [] (f ∷ fs) all = absurd all
entries_cloned c d (e ∷ es) [] all = absurd all
entries_cloned c d (e ∷ es) (f ∷ fs) all = let rest = entries_cloned c d es fs all.1 in
    λ i. (c e.0 f.0 all.0.0 i, d e.1 f.1 all.0.1 i) ∷ rest i

-- a boat that isn't in the list has no number
pub no_number : (es : List (Sail × ℕ)) (boat : Sail)
    → list_any (same_sail boat) (keys_of es) ≡ false → lookup (same_sail boat) es ≡ None
no_number es boat out = by (lookup (same_sail boat) es) (is_some-lookup (same_sail boat) es ∙ out)
  where
    by : (o : Option ℕ) → is_some o ≡ false → o ≡ None
    by (Some n) e = absurd (cc)
    by None e = refl

pub listed : (es new : List (Sail × ℕ)) (boat : Sail) (n : ℕ) → new ≡ es ++ (boat, n) ∷ []
    → keys_of new ≡ keys_of es ++ boat ∷ []
listed es new boat n e = ap keys_of e ∙ map-append (λ (x : Sail × ℕ). x.0) es ((boat, n) ∷ [])
