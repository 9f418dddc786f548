-- Groups of equal numbers, counted from a whole list, by the rising numbers of that list.
use Rattle.std.proofs.Common.{◌≡◌, ℕ, suc, ◌+◌, ◌<◌, ◌≤◌, Bool, true, false, cond, not, ◌&&◌, ◌||◌}
use Rattle.std.proofs.Common.{List, [], ◌∷◌, ◌++◌, refl, ap, ◌∙◌, sym, arith, length, filter, map}
use Rattle.std.proofs.Common.{count_by, nat_eq, nat_lt, zero}
use Rattle.std.specs.Cmp.{both_ways}
use Rattle.std.specs.List.{list_any, range_with_len, AllByRecursion}
use Rattle.std.proofs.lemmas.List.{append-nil, map-append}
use Rattle.std.proofs.lemmas.List.Elements.{filter-append}
use Rattle.std.proofs.lemmas.List.Folds.{list_any-append}
use Rattle.std.proofs.lemmas.List.Sums.{count_by-le-length}
use borrow.Author.Tests.{eqb-true, eq-eqb, ltb-true, ltb-false, lt-ltb, le-ltb, eqb-false}
use Rattle.std.proofs.lemmas.Bool.{or_right, false_from_ne_true}
use Rattle.std.proofs.Math.Bool.{or-true, and-false}
use Rattle.regatta_scores.specs.Order.{is_empty}
use Rattle.regatta_scores.proofs.Counts.{count_cons}
use Rattle.regatta_scores.proofs.Members.{le_by, count_le, all_passed, those_passed}

pub is_itself : (x : ℕ) → nat_eq x x ≡ true
is_itself x = eq-eqb x x refl

-- ---- rising numbers

abbrev pub among : ℕ → List ℕ → Bool
among r xs = list_any (λ x. nat_eq x r) xs

-- each number is below those after it
abbrev pub Rises : List ℕ → Type 0
Rises [] = Unit {0}
Rises (x ∷ xs) = AllByRecursion (λ y. x < y) xs × Rises xs

pub above : (x r : ℕ) (xs : List ℕ) → AllByRecursion (λ y. x < y) xs → among r xs ≡ true → x < r
above x r [] all h = cc
above x r (y ∷ ys) all h = by (nat_eq y r) refl (above x r ys all.1) h
  where
    by : (t : Bool) → nat_eq y r ≡ t → (among r ys ≡ true → x < r) →
        (t || among r ys) ≡ true → x < r
    by true e rest k =
        let same = eqb-true y r e in let first : x < y = all.0 in omega (arith, same, first)
    by false e rest k = rest k

pub not_below : (x r : ℕ) (xs : List ℕ) → AllByRecursion (λ y. x < y) xs → r ≤ x →
    among r xs ≡ false
not_below x r xs all low =
    false_from_ne_true _ (λ e. (let over = above x r xs all e in omega (arith, over)))

least : (x r : ℕ) (xs : List ℕ) → Rises (x ∷ xs) → among r (x ∷ xs) ≡ true → x ≤ r
least x r xs rises h = by (nat_eq x r) refl h
  where
    by : (t : Bool) → nat_eq x r ≡ t → (t || among r xs) ≡ true → x ≤ r
    by true e k = let same = eqb-true x r e in omega (arith, same)
    by false e k = let over = above x r xs rises.0 k in omega (arith, over)

first_among : (x : ℕ) (xs : List ℕ) → among x (x ∷ xs) ≡ true
first_among x xs = rw (is_itself x) refl

-- two lists of rising numbers with the same members are equal
pub told_by_members : (xs ys : List ℕ) → Rises xs → Rises ys →
    ((r : ℕ) → among r xs ≡ among r ys) → xs ≡ ys
told_by_members [] [] a b same = refl
told_by_members [] (y ∷ ys) a b same =
    let none : false ≡ true = same y ∙ first_among y ys in cc
told_by_members (x ∷ xs) [] a b same =
    let none : false ≡ true = sym (same x) ∙ first_among x xs in cc
told_by_members (x ∷ xs) (y ∷ ys) a b same =
    let low : y ≤ x = least y x ys b (sym (same x) ∙ first_among x xs) in
    let high : x ≤ y = least x y xs a (same y ∙ first_among y ys) in
    let one : x ≡ y = omega (arith, low, high) in
    let rest : xs ≡ ys =
    told_by_members xs ys a.1 b.1 (λ r. by r one (nat_eq x r) refl (nat_eq y r) refl (same r)) in
    λ i. one i ∷ rest i
  where
    by : (r : ℕ) → x ≡ y → (t : Bool) → nat_eq x r ≡ t → (u : Bool) → nat_eq y r ≡ u →
        (t || among r xs) ≡ (u || among r ys) → among r xs ≡ among r ys
    by r one true e u f h =
        let here = eqb-true x r e in
        not_below x r xs a.0 (omega (arith, here))
        ∙ sym (not_below y r ys b.0 (omega (arith, here, one)))
    by r one false e true f h =
        let there = eqb-true y r f in
        let apart : false ≡ true = sym e ∙ eq-eqb x r (one ∙ there) in cc
    by r one false e false f h = h

-- ---- some of them

pub some_rise : (p : ℕ → Bool) (xs : List ℕ) → Rises xs → Rises (filter p xs)
some_rise p [] rises = tt
some_rise p (x ∷ xs) rises = by (p x) (some_rise p xs rises.1)
  where
    by : (t : Bool) → Rises (filter p xs) → Rises (cond t (x ∷ filter p xs) (filter p xs))
    by true rest = (all_passed (λ y. x < y) p xs rises.0, rest)
    by false rest = rest

pub among_some : (p : ℕ → Bool) (r : ℕ) (xs : List ℕ) → among r (filter p xs) ≡ (among r xs && p r)
among_some p r [] = refl
among_some p r (x ∷ xs) = by (p x) refl (nat_eq x r) refl (among_some p r xs)
  where
    by : (t : Bool) → p x ≡ t → (u : Bool) → nat_eq x r ≡ u →
        among r (filter p xs) ≡ (among r xs && p r) →
        among r (cond t (x ∷ filter p xs) (filter p xs)) ≡ ((u || among r xs) && p r)
    by true e true f rest =
        let here : p r ≡ true = ap p (sym (eqb-true x r f)) ∙ e in
        rw (f, here) refl
    by true e false f rest = rw f rest
    by false e true f rest =
        let here : p r ≡ false = ap p (sym (eqb-true x r f)) ∙ e in
        let none : (among r xs && p r) ≡ false = rw here (and-false (among r xs)) in
        rest ∙ none ∙ sym here
    by false e false f rest = rest

range_above : (x a n : ℕ) → x < a → AllByRecursion (λ y. x < y) (range_with_len a n)
range_above x a zero h = tt
range_above x a (suc n) h = (h, range_above x (a + 1) n (omega arith))

pub range_rises : (a n : ℕ) → Rises (range_with_len a n)
range_rises a zero = tt
range_rises a (suc n) = (range_above a (a + 1) n (omega arith), range_rises (a + 1) n)

pub among_range : (r a n : ℕ) → a ≤ r → among r (range_with_len a n) ≡ nat_lt r (a + n)
among_range r a zero h = sym (le-ltb r (a + zero) (omega arith))
among_range r a (suc n) h = by (nat_eq a r) refl (among_range r (a + 1) n)
  where
    by : (t : Bool) → nat_eq a r ≡ t →
        (a + 1 ≤ r → among r (range_with_len (a + 1) n) ≡ nat_lt r ((a + 1) + n)) →
        (t || among r (range_with_len (a + 1) n)) ≡ nat_lt r (a + suc n)
    by true e rest = let here = eqb-true a r e in sym (lt-ltb r (a + suc n) (omega (arith, here)))
    by false e rest =
        let apart = eqb-false a r e in
        let longer : (a + 1) + n ≡ a + suc n = omega arith in
        rest (omega (arith, apart)) ∙ ap (nat_lt r) longer

-- a property of all members holds for each
pub all_among : (xs : List ℕ) (P : ℕ → Type 0) → ((r : ℕ) → among r xs ≡ true → P r) →
    AllByRecursion P xs
all_among [] P each = tt
all_among (x ∷ xs) P each = (
  each x (first_among x xs),
  all_among xs P (λ r h. each r (or_right (nat_eq x r) (among r xs) h)),
)

-- ---- one more number

-- the number, inserted once after those below it and before those above it
abbrev pub put : ℕ → List ℕ → List ℕ
put s xs = filter (λ x. nat_lt x s) xs ++ s ∷ filter (λ x. nat_lt s x) xs

lower_passed : (s : ℕ) (xs : List ℕ) → AllByRecursion (λ x. x < s) (filter (λ x. nat_lt x s) xs)
lower_passed s = those_passed (λ x. x < s) (λ x. nat_lt x s) (λ x e. ltb-true x s e)

later_passed : (s : ℕ) (xs : List ℕ) → AllByRecursion (λ x. s < x) (filter (λ x. nat_lt s x) xs)
later_passed s = those_passed (λ x. s < x) (λ x. nat_lt s x) (λ x e. ltb-true s x e)

above_more : (x s : ℕ) (ys : List ℕ) → x < s → AllByRecursion (λ y. s < y) ys →
    AllByRecursion (λ y. x < y) ys
above_more x s [] h all = tt
above_more x s (y ∷ ys) h all =
    (let first : s < y = all.0 in omega (arith, h, first), above_more x s ys h all.1)

all_joined : (x s : ℕ) (xs ys : List ℕ) → AllByRecursion (λ y. x < y) xs → x < s →
    AllByRecursion (λ y. s < y) ys → AllByRecursion (λ y. x < y) (xs ++ s ∷ ys)
all_joined x s [] ys all h later = (h, above_more x s ys h later)
all_joined x s (y ∷ xs) ys all h later = (all.0, all_joined x s xs ys all.1 h later)

joined_rise : (s : ℕ) (xs ys : List ℕ) → Rises xs → AllByRecursion (λ x. x < s) xs → Rises ys →
    AllByRecursion (λ y. s < y) ys → Rises (xs ++ s ∷ ys)
joined_rise s [] ys rises lower more later = (later, more)
joined_rise s (x ∷ xs) ys rises lower more later =
    (all_joined x s xs ys rises.0 lower.0 later, joined_rise s xs ys rises.1 lower.1 more later)

pub put_rises : (s : ℕ) (xs : List ℕ) → Rises xs → Rises (put s xs)
put_rises s xs rises =
    joined_rise s (filter (λ x. nat_lt x s) xs)
    (filter (λ x. nat_lt s x) xs) (some_rise (λ x. nat_lt x s) xs rises)
    (lower_passed s xs) (some_rise (λ x. nat_lt s x) xs rises) (later_passed s xs)

pub among_put : (r s : ℕ) (xs : List ℕ) → among r (put s xs) ≡ (nat_eq s r || among r xs)
among_put r s xs =
    list_any-append (λ x. nat_eq x r) (filter (λ x. nat_lt x s) xs)
    (s ∷ filter (λ x. nat_lt s x) xs) ∙ (λ i. among_some (λ x. nat_lt x s) r xs i
    || (nat_eq s r || among_some (λ x. nat_lt s x) r xs i))
    ∙ by (nat_eq s r) refl (nat_lt r s) refl (nat_lt s r) refl (among r xs)
  where
    by : (t : Bool) → nat_eq s r ≡ t → (u : Bool) → nat_lt r s ≡ u → (v : Bool) →
        nat_lt s r ≡ v → (a : Bool) → ((a && u) || (t || (a && v))) ≡ (t || a)
    by true e u f v g a = or-true (a && u)
    by false e true f v g true = refl
    by false e true f v g false = refl
    by false e false f true g true = refl
    by false e false f true g false = refl
    by false e false f false g a =
        let low = ltb-false r s f in
        let high = ltb-false s r g in
        let apart : false ≡ true = sym e ∙ eq-eqb s r (omega (arith, low, high)) in cc

-- of rising numbers, one or none equals a number
pub equal_one : (s : ℕ) (xs : List ℕ) → Rises xs →
    filter (λ x. nat_eq x s) xs ≡ cond (among s xs) (s ∷ []) []
equal_one s [] rises = refl
equal_one s (x ∷ xs) rises = by (nat_eq x s) refl (equal_one s xs rises.1)
  where
    by : (t : Bool) → nat_eq x s ≡ t → filter (λ y. nat_eq y s) xs ≡ cond (among s xs) (s ∷ []) [] →
        cond t (x ∷ filter (λ y. nat_eq y s) xs) (filter (λ y. nat_eq y s) xs)
        ≡ cond (t || among s xs) (s ∷ []) []
    by true e rest =
        let same = eqb-true x s e in
        let none : among s xs ≡ false = not_below x s xs rises.0 (omega (arith, same)) in
        let empty : filter (λ y. nat_eq y s) xs ≡ [] = rest ∙ rw none refl in
        λ i. same i ∷ empty i
    by false e rest = rest

-- for any list of numbers there are rising numbers with the same members
pub risen : (ys : List ℕ) → (xs : List ℕ) × Rises xs × ((r : ℕ) → among r xs ≡ among r ys)
risen [] = ([], tt, λ r. refl)
risen (y ∷ ys) =
    let rest = risen ys in (
      put y rest.0,
      put_rises y rest.0 rest.1,
      λ r. among_put r y rest.0 ∙ ap (λ b. nat_eq y r || b) (rest.2 r),
    )

-- ---- lists

pub map_filter : {X Y : Type 0} (f : X → Y) (p : Y → Bool) (xs : List X) →
    filter p (map f xs) ≡ map f (filter (λ x. p (f x)) xs)
map_filter f p [] = refl
map_filter f p (x ∷ xs) = by (p (f x)) (map_filter f p xs)
  where
    by : (t : Bool) → filter p (map f xs) ≡ map f (filter (λ y. p (f y)) xs) →
        cond t (f x ∷ filter p (map f xs)) (filter p (map f xs))
        ≡ map f (cond t (x ∷ filter (λ y. p (f y)) xs) (filter (λ y. p (f y)) xs))
    by true rest = ap (λ ys. f x ∷ ys) rest
    by false rest = rest

pub map_twice : {X Y Z : Type 0} (f : Y → Z) (g : X → Y) (xs : List X) →
    map f (map g xs) ≡ map (λ x. f (g x)) xs
map_twice f g [] = refl
map_twice f g (x ∷ xs) = ap (λ ys. f (g x) ∷ ys) (map_twice f g xs)

map_agree : {X Y : Type 0} (P : X → Type 0) (f g : X → Y) → ((x : X) → P x → f x ≡ g x) →
    (xs : List X) → AllByRecursion P xs → map f xs ≡ map g xs
map_agree P f g same [] all = refl
map_agree P f g same (x ∷ xs) all = λ i. same x all.0 i ∷ map_agree P f g same xs all.1 i

pub filter_agree : {X : Type 0} (P : X → Type 0) (p q : X → Bool) → ((x : X) → P x → p x ≡ q x) →
    (xs : List X) → AllByRecursion P xs → filter p xs ≡ filter q xs
filter_agree P p q same [] all = refl
filter_agree P p q same (x ∷ xs) all =
    λ i. cond (same x all.0 i) (x ∷ filter_agree P p q same xs all.1 i)
    (filter_agree P p q same xs all.1 i)

filter_swap : {X : Type 0} (p q : X → Bool) (xs : List X) →
    filter p (filter q xs) ≡ filter q (filter p xs)
filter_swap p q [] = refl
filter_swap p q (x ∷ xs) = by (p x) refl (q x) refl (filter_swap p q xs)
  where
    by : (t : Bool) → p x ≡ t → (u : Bool) → q x ≡ u →
        filter p (filter q xs) ≡ filter q (filter p xs) →
        filter p (cond u (x ∷ filter q xs) (filter q xs))
        ≡ filter q (cond t (x ∷ filter p xs) (filter p xs))
    by true e true f rest = rw (e, f) (ap (λ ys. x ∷ ys) rest)
    by true e false f rest = rw f rest
    by false e true f rest = rw e rest
    by false e false f rest = rest

pub some_left : {X : Type 0} (p : X → Bool) (xs : List X) →
    not (is_empty (filter p xs)) ≡ list_any p xs
some_left p [] = refl
some_left p (x ∷ xs) = by (p x) (some_left p xs)
  where
    by : (t : Bool) → not (is_empty (filter p xs)) ≡ list_any p xs →
        not (is_empty (cond t (x ∷ filter p xs) (filter p xs))) ≡ (t || list_any p xs)
    by true rest = refl
    by false rest = rest

pub any_map : {X Y : Type 0} (f : X → Y) (p : Y → Bool) (xs : List X) →
    list_any p (map f xs) ≡ list_any (λ x. p (f x)) xs
any_map f p [] = refl
any_map f p (x ∷ xs) = ap (λ b. p (f x) || b) (any_map f p xs)

any_at : (p : ℕ → Bool) (r : ℕ) (xs : List ℕ) → p r ≡ true → among r xs ≡ true →
    list_any p xs ≡ true
any_at p r [] passes h = cc
any_at p r (x ∷ xs) passes h = by (nat_eq x r) refl (any_at p r xs passes) h
  where
    by : (t : Bool) → nat_eq x r ≡ t → (among r xs ≡ true → list_any p xs ≡ true) →
        (t || among r xs) ≡ true → (p x || list_any p xs) ≡ true
    by true e rest k = let here : p x ≡ true = ap p (eqb-true x r e) ∙ passes in rw here refl
    by false e rest k = or_right (p x) (list_any p xs) (rest k)

any_among : (p : ℕ → Bool) (xs ys : List ℕ) →
    AllByRecursion (λ x. among x ys ≡ true) xs → list_any p xs ≡ true → list_any p ys ≡ true
any_among p [] ys all h = cc
any_among p (x ∷ xs) ys all h = by (p x) refl (any_among p xs ys all.1) h
  where
    by : (t : Bool) → p x ≡ t → (list_any p xs ≡ true → list_any p ys ≡ true) →
        (t || list_any p xs) ≡ true → list_any p ys ≡ true
    by true e rest k = any_at p x ys e all.0
    by false e rest k = rest k

-- lists of numbers with the same members pass the same tests
pub same_any : (p : ℕ → Bool) (xs ys : List ℕ) → ((r : ℕ) → among r xs ≡ among r ys) →
    list_any p xs ≡ list_any p ys
same_any p xs ys same =
    both_ways (list_any p xs) (list_any p ys)
    (any_among p xs ys (all_among xs (λ x. among x ys ≡ true) (λ r h. sym (same r) ∙ h)))
    (any_among p ys xs (all_among ys (λ y. among y xs ≡ true) (λ r h. same r ∙ h)))

or_under : (a b c : Bool) → (b ≡ true → c ≡ true) → (a || b) ≡ true → (a || c) ≡ true
or_under true b c f h = refl
or_under false b c f h = f h

pub any_filter : {X : Type 0} (p q : X → Bool) (xs : List X) → list_any p (filter q xs) ≡ true →
    list_any p xs ≡ true
any_filter p q [] h = h
any_filter p q (x ∷ xs) h = by (q x) (any_filter p q xs) h
  where
    by : (t : Bool) → (list_any p (filter q xs) ≡ true → list_any p xs ≡ true) →
        list_any p (cond t (x ∷ filter q xs) (filter q xs)) ≡ true → (p x || list_any p xs) ≡ true
    by true rest k = or_under (p x) (list_any p (filter q xs)) (list_any p xs) rest k
    by false rest k = or_right (p x) (list_any p xs) (rest k)

-- ---- groups

module _ {X : Type 0} (key : X → ℕ) where
  abbrev pub has : ℕ → X → Bool
  has r x = nat_eq (key x) r

  abbrev pub lower : List X → ℕ → ℕ
  lower xs r = count_by (λ x. nat_lt (key x) r) xs

  abbrev pub behind : List X → ℕ → List X
  behind xs k = filter (λ x. nat_eq (lower xs (key x)) k) xs

  abbrev pub in_groups : List X → List (List X)
  in_groups xs =
      filter (λ group. not (is_empty group)) (map (behind xs) (range_with_len 0 (length xs)))

  abbrev pub those : List X → ℕ → List X
  those xs r = filter (has r) xs

  -- the members of the list are the keys of the elements
  abbrev pub AreKeys : List ℕ → List X → Type 0
  AreKeys rs xs = (r : ℕ) → among r rs ≡ list_any (has r) xs

  -- each element's key is among the keys
  pub own_key : (xs : List X) → AllByRecursion (λ x. list_any (has (key x)) xs ≡ true) xs
  own_key [] = tt
  own_key (x ∷ xs) = (
    rw (is_itself (key x)) refl,
    wider xs (own_key xs),
  )
    where
      wider : (ys : List X) → AllByRecursion (λ y. list_any (has (key y)) xs ≡ true) ys →
          AllByRecursion (λ y. list_any (has (key y)) (x ∷ xs) ≡ true) ys
      wider [] all = tt
      wider (y ∷ ys) all =
          (or_right (nat_eq (key x) (key y)) (list_any (has (key y)) xs) all.0, wider ys all.1)

  keys_any : (p : ℕ → Bool) (rs : List ℕ) (xs : List X) → AreKeys rs xs →
      list_any p rs ≡ list_any (λ x. p (key x)) xs
  keys_any p rs xs are =
      same_any p rs (map key xs) (λ r. are r ∙ sym (any_map key (λ k. nat_eq k r) xs))
      ∙ any_map key p xs

  -- ---- how many are lower

  lower_le : (xs : List X) (r s : ℕ) → r ≤ s → lower xs r ≤ lower xs s
  lower_le xs r s h =
      count_le (λ x. nat_lt (key x) r) (λ x. nat_lt (key x) s)
      (λ x e. (let below = ltb-true (key x) r e in lt-ltb (key x) s (omega (arith, below, h)))) xs

  -- fewer elements are lower than a key than are lower than a greater number
  pub lower_lt : (xs : List X) (r s : ℕ) → r < s → list_any (has r) xs ≡ true →
      lower xs r < lower xs s
  lower_lt [] r s h is = cc
  lower_lt (x ∷ xs) r s h is = by (nat_eq (key x) r) refl (lower_lt xs r s h) is
    where
      first : ◌≡◌ {A = ℕ} (lower (x ∷ xs) r) (cond (nat_lt (key x) r) 1 0 + lower xs r)
      first = count_cons (λ y. nat_lt (key y) r) x xs

      second : ◌≡◌ {A = ℕ} (lower (x ∷ xs) s) (cond (nat_lt (key x) s) 1 0 + lower xs s)
      second = count_cons (λ y. nat_lt (key y) s) x xs

      by : (t : Bool) → nat_eq (key x) r ≡ t →
          (list_any (has r) xs ≡ true → lower xs r < lower xs s) →
          (t || list_any (has r) xs) ≡ true → lower (x ∷ xs) r < lower (x ∷ xs) s
      by true e rest k =
          let same = eqb-true (key x) r e in
          let none : ◌≡◌ {A = ℕ} (cond (nat_lt (key x) r) 1 0) 0 =
          rw (le-ltb (key x) r (omega (arith, same))) refl in
          let one : ◌≡◌ {A = ℕ} (cond (nat_lt (key x) s) 1 0) 1 =
          rw (lt-ltb (key x) s (omega (arith, same, h))) refl in
          omega (arith, first, second, none, one, lower_le xs r s (omega (arith, h)))
      by false e rest k =
          let here = le_by (nat_lt (key x) r) (nat_lt (key x) s)
          (λ f. (let below = ltb-true (key x) r f in
          lt-ltb (key x) s (omega (arith, below, h)))) in
          omega (arith, first, second, here, rest k)

  few_lower : (xs : List X) (r : ℕ) → list_any (has r) xs ≡ true → lower xs r < length xs
  few_lower xs r is =
      let more = lower_lt xs r (suc r) (omega arith) is in
      let most = count_by-le-length (λ x. nat_lt (key x) (suc r)) xs in
      omega (arith, more, most)

  -- two keys are equal if and only if equally many elements are lower
  lower_tells : (xs : List X) (r s : ℕ) → list_any (has r) xs ≡ true →
      list_any (has s) xs ≡ true → nat_eq (lower xs r) (lower xs s) ≡ nat_eq r s
  lower_tells xs r s in_r in_s =
      both_ways (nat_eq (lower xs r) (lower xs s)) (nat_eq r s)
      (λ e. by (eqb-true (lower xs r) (lower xs s) e) (nat_lt r s) refl (nat_lt s r) refl)
      (λ e. eq-eqb (lower xs r) (lower xs s) (ap (lower xs) (eqb-true r s e)))
    where
      by : lower xs r ≡ lower xs s → (t : Bool) → nat_lt r s ≡ t → (u : Bool) →
          nat_lt s r ≡ u → nat_eq r s ≡ true
      by same true e u f =
          let more = lower_lt xs r s (ltb-true r s e) in_r in absurd (omega (arith, more, same))
      by same false e true f =
          let more = lower_lt xs s r (ltb-true s r f) in_s in absurd (omega (arith, more, same))
      by same false e false f =
          let a = ltb-false r s e in let b = ltb-false s r f in eq-eqb r s (omega (arith, a, b))

  -- the elements with as many lower ones as a key has are those with that key
  those_behind : (xs : List X) (r : ℕ) → list_any (has r) xs ≡ true →
      behind xs (lower xs r) ≡ those xs r
  those_behind xs r is =
      filter_agree (λ x. list_any (has (key x)) xs ≡ true)
      (λ x. nat_eq (lower xs (key x)) (lower xs r)) (has r)
      (λ x known. lower_tells xs (key x) r known is) xs (own_key xs)

  -- the numbers of lower elements rise with the keys
  lowers_above : (xs : List X) (r : ℕ) (rs : List ℕ) → list_any (has r) xs ≡ true →
      AllByRecursion (λ s. r < s) rs → AllByRecursion (λ k. lower xs r < k) (map (lower xs) rs)
  lowers_above xs r [] is all = tt
  lowers_above xs r (s ∷ rs) is all = (lower_lt xs r s all.0 is, lowers_above xs r rs is all.1)

  lowers_rise : (xs : List X) (rs : List ℕ) → Rises rs →
      AllByRecursion (λ r. list_any (has r) xs ≡ true) rs → Rises (map (lower xs) rs)
  lowers_rise xs [] rises all = tt
  lowers_rise xs (r ∷ rs) rises all =
      (lowers_above xs r rs all.0 rises.0, lowers_rise xs rs rises.1 all.1)

  -- each element has fewer lower ones than there are elements
  within_some : (xs ys : List X) (k : ℕ) →
      AllByRecursion (λ y. list_any (has (key y)) xs ≡ true) ys →
      list_any (λ y. nat_eq (lower xs (key y)) k) ys ≡ true → k < length xs
  within_some xs [] k all h = cc
  within_some xs (y ∷ ys) k all h =
      by (nat_eq (lower xs (key y)) k) refl (within_some xs ys k all.1) h
    where
      by : (t : Bool) → nat_eq (lower xs (key y)) k ≡ t →
          (list_any (λ z. nat_eq (lower xs (key z)) k) ys ≡ true → k < length xs) →
          (t || list_any (λ z. nat_eq (lower xs (key z)) k) ys) ≡ true → k < length xs
      by true e rest g =
          let same = eqb-true (lower xs (key y)) k e in
          let few = few_lower xs (key y) all.0 in
          omega (arith, same, few)
      by false e rest g = rest g

  within : (xs : List X) (k : ℕ) → list_any (λ x. nat_eq (lower xs (key x)) k) xs ≡ true →
      k < length xs
  within xs k h = within_some xs xs k (own_key xs) h

  -- the numbers of lower elements that have a group
  abbrev counts : List X → List ℕ
  counts xs = filter (λ k. not (is_empty (behind xs k))) (range_with_len 0 (length xs))

  and_known : (a b : Bool) → (b ≡ true → a ≡ true) → (a && b) ≡ b
  and_known true b h = refl
  and_known false true h = h refl
  and_known false false h = refl

  counts_are : (xs : List X) (rs : List ℕ) → Rises rs → AreKeys rs xs →
      counts xs ≡ map (lower xs) rs
  counts_are xs rs rises are =
      told_by_members (counts xs) (map (lower xs) rs)
      (some_rise (λ k. not (is_empty (behind xs k))) (range_with_len 0 (length xs))
      (range_rises 0 (length xs)))
      (lowers_rise xs rs rises
      (all_among rs (λ r. list_any (has r) xs ≡ true) (λ r h. sym (are r) ∙ h))) members
    where
      members : (k : ℕ) → among k (counts xs) ≡ among k (map (lower xs) rs)
      members k =
          let test = λ (x : X). nat_eq (lower xs (key x)) k in
          let whole : 0 + length xs ≡ length xs = omega arith in
          among_some (λ j. not (is_empty (behind xs j))) k (range_with_len 0 (length xs))
          ∙ (λ i. (among_range k 0 (length xs) (omega arith) ∙ ap (nat_lt k) whole) i
          && some_left test xs i)
          ∙ and_known (nat_lt k (length xs)) (list_any test xs)
          (λ h. lt-ltb k (length xs) (within xs k h)) ∙ sym (any_map (lower xs) (λ j. nat_eq j k) rs
          ∙ keys_any (λ r. nat_eq (lower xs r) k) rs xs are)

  -- by the rising keys of all elements, each group has the elements with one key
  pub groups_are : (xs : List X) (rs : List ℕ) → Rises rs → AreKeys rs xs →
      in_groups xs ≡ map (those xs) rs
  groups_are xs rs rises are =
      map_filter (behind xs) (λ group. not (is_empty group)) (range_with_len 0 (length xs))
      ∙ ap (map (behind xs)) (counts_are xs rs rises are) ∙ map_twice (behind xs) (lower xs) rs
      ∙ map_agree (λ r. list_any (has r) xs ≡ true) (λ r. behind xs (lower xs r)) (those xs)
      (those_behind xs) rs (all_among rs (λ r. list_any (has r) xs ≡ true) (λ r h. sym (are r) ∙ h))

  -- such keys exist
  pub keys_of : (xs : List X) → (rs : List ℕ) × Rises rs × AreKeys rs xs
  keys_of xs =
      let found = risen (map key xs) in
      (found.0, found.1, λ r. found.2 r ∙ any_map key (λ k. nat_eq k r) xs)

  -- ---- some of the elements

  pub groups_of_some : (q : X → Bool) (xs : List X) → in_groups (filter q xs)
      ≡ filter (λ group. not (is_empty group)) (map (filter q) (in_groups xs))
  groups_of_some q xs =
      let keys = keys_of xs in
      let rs = keys.0 in
      let left = λ (r : ℕ). list_any (has r) (filter q xs) in
      let are : AreKeys (filter left rs) (filter q xs) =
      λ r. among_some left r rs ∙ ap (λ b. b && left r) (keys.2 r)
      ∙ and_known (list_any (has r) xs) (left r) (any_filter (has r) q xs) in
      groups_are (filter q xs) (filter left rs) (some_rise left rs keys.1) are
      ∙ sym (ap (λ gs. filter (λ group. not (is_empty group)) (map (filter q) gs))
      (groups_are xs rs keys.1 keys.2)
      ∙ ap (filter (λ group. not (is_empty group))) (map_twice (filter q) (those xs) rs)
      ∙ ap (filter (λ group. not (is_empty group))) (map_agree (λ r. Unit {0})
      (λ r. filter q (those xs r)) (those (filter q xs)) (λ r _. filter_swap q (has r) xs) rs
      (nothing rs)) ∙ map_filter (those (filter q xs)) (λ group. not (is_empty group)) rs
      ∙ ap (map (those (filter q xs))) (filter_agree (λ r. Unit {0})
      (λ r. not (is_empty (those (filter q xs) r))) left (λ r _. some_left (has r) (filter q xs))
      rs (nothing rs)))
    where
      nothing : (rs : List ℕ) → AllByRecursion (λ r. Unit {0}) rs
      nothing [] = tt
      nothing (r ∷ rs) = (tt, nothing rs)

  -- ---- one more element

  more_keys : (xs : List X) (x : X) (rs : List ℕ) → AreKeys rs xs →
      AreKeys (put (key x) rs) (xs ++ x ∷ [])
  more_keys xs x rs are r =
      among_put r (key x) rs ∙ ap (λ b. nat_eq (key x) r || b) (are r)
      ∙ swapped (nat_eq (key x) r) (list_any (has r) xs) ∙ sym (list_any-append (has r) xs (x ∷ []))
    where
      swapped : (a b : Bool) → (a || b) ≡ (b || (a || false))
      swapped true true = refl
      swapped true false = refl
      swapped false true = refl
      swapped false false = refl

  other_keys : (xs : List X) (x : X) (p : ℕ → Bool) → p (key x) ≡ false → (rs : List ℕ) →
      map (those (xs ++ x ∷ [])) (filter p rs) ≡ map (those xs) (filter p rs)
  other_keys xs x p out [] = refl
  other_keys xs x p out (r ∷ rs) = by (p r) refl (nat_eq (key x) r) refl (other_keys xs x p out rs)
    where
      by : (t : Bool) → p r ≡ t → (u : Bool) → nat_eq (key x) r ≡ u →
          map (those (xs ++ x ∷ [])) (filter p rs) ≡ map (those xs) (filter p rs) →
          map (those (xs ++ x ∷ [])) (cond t (r ∷ filter p rs) (filter p rs))
          ≡ map (those xs) (cond t (r ∷ filter p rs) (filter p rs))
      by true e true f rest =
          let apart : false ≡ true = sym out ∙ ap p (eqb-true (key x) r f) ∙ e in cc
      by true e false f rest =
          let same : those (xs ++ x ∷ []) r ≡ those xs r =
          filter-append (has r) xs (x ∷ []) ∙ rw f (append-nil (those xs r)) in
          λ i. same i ∷ rest i
      by false e u f rest = rest

  -- the groups with lower keys, the group with its key and the element itself, then the other
  -- groups
  pub groups_of_more : (xs : List X) (x : X) (rs : List ℕ) → Rises rs → AreKeys rs xs →
      in_groups (xs ++ x ∷ []) ≡ map (those xs) (filter (λ r. nat_lt r (key x)) rs)
      ++ (those xs (key x) ++ x ∷ []) ∷ map (those xs) (filter (λ r. nat_lt (key x) r) rs)
  groups_of_more xs x rs rises are =
      let s = key x in
      let all = xs ++ x ∷ [] in
      let itself : nat_lt s s ≡ false = le-ltb s s (omega arith) in
      let hers : those all s ≡ those xs s ++ x ∷ [] =
      filter-append (has s) xs (x ∷ []) ∙ rw (is_itself s) refl in
      groups_are all (put s rs) (put_rises s rs rises) (more_keys xs x rs are)
      ∙ map-append (those all) (filter (λ r. nat_lt r s) rs) (s ∷ filter (λ r. nat_lt s r) rs)
      ∙ (λ i. other_keys xs x (λ r. nat_lt r s) itself rs i
      ++ hers i ∷ other_keys xs x (λ r. nat_lt s r) itself rs i)
