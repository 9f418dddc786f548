-- The finishing order by numbers after one more change.
use Rattle.std.proofs.Common.{◌≡◌, ℕ, ◌+◌, Bool, true, false, cond, not, ◌||◌, List, [], ◌∷◌, ◌++◌}
use Rattle.std.proofs.Common.{refl, ap, sym, ◌∙◌, map, filter, flat_map, nat_eq, Option}
use Rattle.std.specs.List.{list_any}
use Rattle.std.proofs.lemmas.List.{map-append}
use Rattle.regatta_terms.specs.declared.sail.Sail.{Sail}
use Rattle.regatta_scores.specs.Journal.{same_sail}
use Rattle.regatta_scores.specs.Order.{is_empty, in_group, stands_in, with_last, joined, with_ahead}
use Rattle.regatta_scores.specs.Order.{without}
use Rattle.regatta_scores.specs.CorrectedTimes.{is_lower, is_equal, is_later, group_time}
use Rattle.regatta_scores.specs.CorrectedTimes.{lower_groups, equal_boats, later_groups, with_time}
use Rattle.std.proofs.lemmas.Bool.{or_left, or_right}
use Rattle.regatta_scores.proofs.TiedTimes.{map_filter}
use Rattle.regatta_board.proofs.Numbers.{index_in, numbers_tell, is_same}

pub last_numbered : (boats : List Sail) (order : List (List Sail)) (sail : Sail)
    → map (map (index_in boats)) (with_last same_sail order sail)
    ≡ with_last nat_eq (map (map (index_in boats)) order) (index_in boats sail)
last_numbered boats order sail = map-append (map (index_in boats)) order ((sail ∷ []) ∷ [])

pub group_numbered : (boats : List Sail) (other : Sail) → list_any (same_sail other) boats ≡ true
    → (g : List Sail) → in_group nat_eq (index_in boats other) (map (index_in boats) g)
    ≡ in_group same_sail other g
group_numbered boats other known [] = refl
group_numbered boats other known (x ∷ xs) =
    λ i. numbers_tell boats x other known i || group_numbered boats other known xs i

pub joined_numbered : (boats : List Sail) (order : List (List Sail)) (sail other : Sail)
    → list_any (same_sail other) boats ≡ true
    → map (map (index_in boats)) (joined same_sail order sail other)
    ≡ joined nat_eq (map (map (index_in boats)) order) (index_in boats sail) (index_in boats other)
joined_numbered boats [] sail other known = refl
joined_numbered boats (g ∷ gs) sail other known =
    by (in_group same_sail other g) (group_numbered boats other known g)
    (joined_numbered boats gs sail other known)
  where
    by : (b : Bool) → in_group nat_eq (index_in boats other) (map (index_in boats) g) ≡ b
        → map (map (index_in boats)) (joined same_sail gs sail other)
        ≡ joined nat_eq (map (map (index_in boats)) gs) (index_in boats sail) (index_in boats other)
        → map (index_in boats) (cond b (g ++ sail ∷ []) g)
        ∷ map (map (index_in boats)) (joined same_sail gs sail other)
        ≡ joined nat_eq (map (map (index_in boats)) (g ∷ gs)) (index_in boats sail)
        (index_in boats other)
    by true e rest = rw e (λ i. map-append (index_in boats) g (sail ∷ []) i ∷ rest i)
    by false e rest = rw e (λ i. map (index_in boats) g ∷ rest i)

pub ahead_numbered : (boats : List Sail) (order : List (List Sail)) (sail other : Sail)
    → list_any (same_sail other) boats ≡ true
    → map (map (index_in boats)) (with_ahead same_sail order sail other)
    ≡ with_ahead nat_eq (map (map (index_in boats)) order) (index_in boats sail)
    (index_in boats other)
ahead_numbered boats [] sail other known = refl
ahead_numbered boats (g ∷ gs) sail other known =
    by (in_group same_sail other g) (group_numbered boats other known g)
    (ahead_numbered boats gs sail other known)
  where
    by : (b : Bool) → in_group nat_eq (index_in boats other) (map (index_in boats) g) ≡ b
        → map (map (index_in boats)) (with_ahead same_sail gs sail other)
        ≡ with_ahead nat_eq (map (map (index_in boats)) gs) (index_in boats sail)
        (index_in boats other)
        → map (map (index_in boats)) (cond b ((sail ∷ []) ∷ g ∷ []) (g ∷ [])
        ++ with_ahead same_sail gs sail other)
        ≡ with_ahead nat_eq (map (map (index_in boats)) (g ∷ gs)) (index_in boats sail)
        (index_in boats other)
    by true e rest = rw e (λ i. (index_in boats sail ∷ []) ∷ map (index_in boats) g ∷ rest i)
    by false e rest = rw e (λ i. map (index_in boats) g ∷ rest i)

group_struck : (boats : List Sail) (sail : Sail) → list_any (same_sail sail) boats ≡ true
    → (g : List Sail) → map (index_in boats) (filter (λ o. not (same_sail o sail)) g)
    ≡ filter (λ o. not (nat_eq o (index_in boats sail))) (map (index_in boats) g)
group_struck boats sail known g =
    (λ i. map (index_in boats) (filter (λ o. not (sym (numbers_tell boats o sail known) i)) g))
    ∙ sym (map_filter (index_in boats) (λ o. not (nat_eq o (index_in boats sail))) g)

pub same_emptiness : {X Y : Type 0} (f : X → Y) (xs : List X) → is_empty (map f xs) ≡ is_empty xs
same_emptiness f [] = refl
same_emptiness f (x ∷ xs) = refl

kept_numbered : {X Y : Type 0} (f : X → Y) (gs : List (List X))
    → map (map f) (filter (λ g. not (is_empty g)) gs)
    ≡ filter (λ g. not (is_empty g)) (map (map f) gs)
kept_numbered f gs =
    (λ i. map (map f) (filter (λ g. not (sym (same_emptiness f g) i)) gs))
    ∙ sym (map_filter (map f) (λ g. not (is_empty g)) gs)

struck_groups : (boats : List Sail) (sail : Sail) → list_any (same_sail sail) boats ≡ true
    → (gs : List (List Sail))
    → map (map (index_in boats)) (map (filter (λ o. not (same_sail o sail))) gs)
    ≡ map (filter (λ o. not (nat_eq o (index_in boats sail)))) (map (map (index_in boats)) gs)
struck_groups boats sail known [] = refl
struck_groups boats sail known (g ∷ gs) =
    λ i. group_struck boats sail known g i ∷ struck_groups boats sail known gs i

pub without_numbered : (boats : List Sail) (order : List (List Sail)) (sail : Sail)
    → list_any (same_sail sail) boats ≡ true
    → map (map (index_in boats)) (without same_sail order sail)
    ≡ without nat_eq (map (map (index_in boats)) order) (index_in boats sail)
without_numbered boats order sail known =
    kept_numbered (index_in boats) (map (filter (λ o. not (same_sail o sail))) order)
    ∙ ap (filter (λ (g : List ℕ). not (is_empty g))) (struck_groups boats sail known order)

-- ---- one more time

module _ (boats : List Sail) (time : Sail → Option ℕ) (times : ℕ → Option ℕ) where
  -- each boat of the order has her time, at her number
  abbrev AreNumbered : List (List Sail) → Type 0
  AreNumbered order =
      (x : Sail) → stands_in same_sail x order ≡ true → times (index_in boats x) ≡ time x

  group_timed : (g : List Sail) → ((x : Sail) → in_group same_sail x g ≡ true
      → times (index_in boats x) ≡ time x)
      → group_time times (map (index_in boats) g) ≡ group_time time g
  group_timed [] known = refl
  group_timed (x ∷ xs) known = known x (rw (is_same x) refl)

  groups_timed : (p : Option ℕ → Bool) (order : List (List Sail)) → AreNumbered order
      → map (map (index_in boats)) (filter (λ g. p (group_time time g)) order)
      ≡ filter (λ g. p (group_time times g)) (map (map (index_in boats)) order)
  groups_timed p [] known = refl
  groups_timed p (g ∷ gs) known =
      by (p (group_time time g))
      (ap p (group_timed g (λ x h. known x (or_left (in_group same_sail x g) _ h))))
      (groups_timed p gs (λ x h. known x (or_right (in_group same_sail x g) _ h)))
    where
      by : (t : Bool) → p (group_time times (map (index_in boats) g)) ≡ t
          → map (map (index_in boats)) (filter (λ h. p (group_time time h)) gs)
          ≡ filter (λ h. p (group_time times h)) (map (map (index_in boats)) gs)
          → map (map (index_in boats)) (cond t (g ∷ filter (λ h. p (group_time time h)) gs)
          (filter (λ h. p (group_time time h)) gs))
          ≡ filter (λ h. p (group_time times h)) (map (map (index_in boats)) (g ∷ gs))
      by true e rest = rw e (ap (λ hs. map (index_in boats) g ∷ hs) rest)
      by false e rest = rw e rest

  all_numbered : (gs : List (List Sail))
      → map (index_in boats) (flat_map (λ g. g) gs)
      ≡ flat_map (λ g. g) (map (map (index_in boats)) gs)
  all_numbered [] = refl
  all_numbered (g ∷ gs) =
      map-append (index_in boats) g (flat_map (λ h. h) gs)
      ∙ ap (λ ns. map (index_in boats) g ++ ns) (all_numbered gs)

  pub timed_numbered : (order : List (List Sail)) (sail : Sail) (seconds : ℕ) → AreNumbered order
      → map (map (index_in boats)) (with_time time order sail seconds)
      ≡ with_time times (map (map (index_in boats)) order) (index_in boats sail) seconds
  timed_numbered order sail seconds known =
      let equal = equal_boats time order seconds in
      map-append (map (index_in boats)) (lower_groups time order seconds)
      ((equal ++ sail ∷ []) ∷ later_groups time order seconds)
      ∙ (λ i. groups_timed (λ o. is_lower o seconds) order known i
      ++ (map-append (index_in boats) equal (sail ∷ [])
      ∙ ap (λ ns. ns ++ index_in boats sail ∷ [])
      (all_numbered (filter (λ g. is_equal (group_time time g) seconds) order)
      ∙ ap (flat_map (λ (g : List ℕ). g))
      (groups_timed (λ o. is_equal o seconds) order known))) i
      ∷ groups_timed (λ o. is_later o seconds) order known i)

-- ---- one more boat in the entry list

index_stays : (boats : List Sail) (one x : Sail) → list_any (same_sail x) boats ≡ true
    → index_in (boats ++ one ∷ []) x ≡ index_in boats x
index_stays [] one x h = cc
index_stays (z ∷ zs) one x h = by (same_sail x z) refl (index_stays zs one x)
  where
    by : (b : Bool) → same_sail x z ≡ b
        → (list_any (same_sail x) zs ≡ true → index_in (zs ++ one ∷ []) x ≡ index_in zs x)
        → cond (not (same_sail x z)) (1 + index_in (zs ++ one ∷ []) x) 0
        ≡ cond (not (same_sail x z)) (1 + index_in zs x) 0
    by true e rest = rw e refl
    by false e rest = rw e (ap (λ n. 1 + n) (rest (rw e at h)))

group_stays : (boats : List Sail) (one : Sail) (g : List Sail)
    → ((x : Sail) → in_group same_sail x g ≡ true → list_any (same_sail x) boats ≡ true)
    → map (index_in (boats ++ one ∷ [])) g ≡ map (index_in boats) g
group_stays boats one [] known = refl
group_stays boats one (x ∷ xs) known =
    λ i. index_stays boats one x (known x (rw (is_same x) refl)) i
    ∷ group_stays boats one xs (λ y h. known y (or_right (same_sail x y) _ h)) i

pub order_stays : (boats : List Sail) (one : Sail) (order : List (List Sail))
    → ((x : Sail) → stands_in same_sail x order ≡ true → list_any (same_sail x) boats ≡ true)
    → map (map (index_in (boats ++ one ∷ []))) order ≡ map (map (index_in boats)) order
order_stays boats one [] known = refl
order_stays boats one (g ∷ gs) known =
    λ i. group_stays boats one g (λ x h. known x (or_left (in_group same_sail x g) _ h)) i
    ∷ order_stays boats one gs (λ x h. known x (or_right (in_group same_sail x g) _ h)) i
