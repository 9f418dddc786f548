-- Lists computed by functions.
use Rattle.std.proofs.Common.{◌≡◌, ℕ, ◌+◌, ◌<◌, ◌≤◌, List, [], ◌∷◌, ◌++◌, refl, ap, ◌∙◌, sym}
use Rattle.std.proofs.Common.{length, get_or, map, take}
use Rattle.std.proofs.lemmas.List.{map_more, take_all}

-- mapping by one function after another
pub map_map : {X Y Z : Type 0} (f : Y → Z) (g : X → Y) (xs : List X)
    → map f (map g xs) ≡ map (λ x. f (g x)) xs
map_map f g [] = refl
map_map f g (x ∷ xs) = ap (λ ys. f (g x) ∷ ys) (map_map f g xs)

-- mapping by two functions that agree
pub map_same : {X Y : Type 0} (f g : X → Y) → ((x : X) → f x ≡ g x) → (xs : List X)
    → map f xs ≡ map g xs
map_same f g same [] = refl
map_same f g same (x ∷ xs) = λ i. same x i ∷ map_same f g same xs i

-- a loop that fills a list appends the result for one more item
pub pushed_more : {X Y : Type 0} (f : X → Y) (xs : List X) (i : ℕ) (x : X) (y : Y)
    (old new : List Y) → i < length xs → x ≡ get_or xs i x → y ≡ f x → old ≡ map f (take i xs)
    → new ≡ old ++ y ∷ [] → new ≡ map f (take (i + 1) xs)
pushed_more f xs i x y old new within is made so_far pushed = pushed
    ∙ (λ j. so_far j ++ (made ∙ ap f is) j ∷ []) ∙ sym (map_more f xs i x within)

-- when all items are done, the list is complete
pub pushed_all : {X Y : Type 0} (f : X → Y) (xs : List X) (i : ℕ) (found : List Y) → length xs ≤ i
    → found ≡ map f (take i xs) → found ≡ map f xs
pushed_all f xs i found all is = is ∙ ap (map f) (take_all i xs all)
