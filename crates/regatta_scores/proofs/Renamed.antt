-- Scores do not depend on the names of the boats.
use Rattle.std.proofs.Common.{◌≡◌, ◌+◌, Bool, true, false, cond, not, List, []}
use Rattle.std.proofs.Common.{◌∷◌, refl, ap, ◌∙◌, sym, map, take, length, count_by, sum_by, find}
use Rattle.std.proofs.Common.{ℕ, unwrap_or, Some, is_none, ◌-◌, ◌*◌, min, max}
use Rattle.std.specs.List.{list_any, before_first, prefix_len, position_or_len, AllByRecursion}
use Rattle.std.specs.List.{enumerate_from}
use Rattle.std.proofs.lemmas.List.{length-map, take-map}
use Rattle.regatta_terms.specs.Rules.{RulesParts}
use Rattle.regatta_scores.specs.Order.{in_group, stands_in}
use Rattle.regatta_scores.specs.RacePoints.{Race, status, status_by, came, finishers, dnf}
use Rattle.regatta_scores.specs.RacePoints.{dnf_by, base_by, plain, penalty_points}
use Rattle.regatta_scores.specs.RaceLaws.{finishing_place, sharing}
use Rattle.regatta_scores.specs.Details.{PlacedGroup, base, placed_group, placed_groups, race_basis}
use Rattle.regatta_scores.specs.Details.{scoring, status_code, twenty_percent_of}
use Rattle.regatta_scores.specs.Outcomes.{outcome, score_of}
use Rattle.regatta_scores.proofs.Counts.{count_cons, count_by-map, sum_by-map}
use Rattle.regatta_scores.proofs.TiedTimes.{any_map}

prefix_map : {X Y : Type 0} (f : X → Y) (p : Y → Bool) (q : X → Bool) → ((x : X) → p (f x) ≡ q x) →
    (xs : List X) → prefix_len p (map f xs) ≡ prefix_len q xs
prefix_map f p q same [] = refl
prefix_map f p q same (x ∷ xs) = λ i. cond (same x i) (1 + prefix_map f p q same xs i) 0

before_map : {X Y : Type 0} (f : X → Y) (p : Y → Bool) (q : X → Bool) → ((x : X) → p (f x) ≡ q x) →
    (xs : List X) → before_first p (map f xs) ≡ map f (before_first q xs)
before_map f p q same xs =
    ap (λ n. take n (map f xs)) (prefix_map f (λ y. not (p y)) (λ x. not (q x))
    (λ x. ap not (same x)) xs) ∙ take-map f (position_or_len q xs) xs

found_map : {X Y : Type 0} (f : X → Y) (p : List Y → Bool) (q : List X → Bool) →
    ((g : List X) → p (map f g) ≡ q g) → (gs : List (List X)) →
    unwrap_or (find p (map (map f) gs)) [] ≡ map f (unwrap_or (find q gs) [])
found_map f p q same [] = refl
found_map f p q same (g ∷ gs) = by (q g) (same g) (found_map f p q same gs)
  where
    by : (b : Bool) → p (map f g) ≡ b →
        unwrap_or (find p (map (map f) gs)) [] ≡ map f (unwrap_or (find q gs) []) →
        unwrap_or (cond (p (map f g)) (Some (map f g)) (find p (map (map f) gs))) []
        ≡ map f (unwrap_or (cond b (Some g) (find q gs)) [])
    by true e rest = rw e refl
    by false e rest = rw e rest

count_map_known : {X Y : Type 0} (Known : X → Type 0) (f : X → Y) (p : Y → Bool) (q : X → Bool) →
    ((x : X) → Known x → p (f x) ≡ q x) → (xs : List X) → AllByRecursion Known xs →
    count_by p (map f xs) ≡ count_by q xs
count_map_known Known f p q same [] all = refl
count_map_known Known f p q same (x ∷ xs) all =
    count_cons p (f x) (map f xs) ∙ (λ i. cond (same x all.0 i) 1 0
    + count_map_known Known f p q same xs all.1 i) ∙ sym (count_cons q x xs)

-- the second race is the first with each boat x called name x. A known boat, as each entered one
-- is, shares her name with no other. So a sheet can be scored instead of the journal.
pub record IsRenamed
    {B C : Type 0} (same_b : B → B → Bool) (same_c : C → C → Bool)
    (Known : B → Type 0) (name : B → C) (race : Race B) (renamed : Race C) : Type 0 where
  pub tells : (x y : B) → Known y → same_c (name x) (name y) ≡ same_b x y
  pub all_known : AllByRecursion Known race.entered
  pub entry_list : renamed.entered ≡ map name race.entered
  pub finish : renamed.order ≡ map (map name) race.order
  pub holds : (x : B) → renamed.held (name x) ≡ race.held x

-- a group with its boats renamed
abbrev pub renamed_group : {B C : Type 0} → (B → C) → PlacedGroup B → PlacedGroup C
renamed_group name group =
    record { place = group.place; sharing = group.sharing; boats = map name group.boats }

module _ {B C : Type 0} (same_b : B → B → Bool) (same_c : C → C → Bool) (Known : B → Type 0)
    (name : B → C) (race : Race B) (renamed : Race C)
    (r : IsRenamed same_b same_c Known name race renamed) where
  group_same : (boat : B) → Known boat → (group : List B) →
      in_group same_c (name boat) (map name group) ≡ in_group same_b boat group
  group_same boat known group =
      any_map name (λ o. same_c o (name boat)) group ∙ λ i. list_any (λ x. r.tells x boat known i) group

  order_same : (boat : B) → Known boat →
      stands_in same_c (name boat) renamed.order ≡ stands_in same_b boat race.order
  order_same boat known =
      ap (stands_in same_c (name boat)) r.finish
      ∙ any_map (map name) (in_group same_c (name boat)) race.order
      ∙ λ i. list_any (λ g. group_same boat known g i) race.order

  status_same : (boat : B) → Known boat →
      status same_c renamed (name boat) ≡ status same_b race boat
  status_same boat known i = status_by (r.holds boat i).code (order_same boat known i)

  finishers_same : (group : List B) → finishers renamed (map name group) ≡ finishers race group
  finishers_same group =
      count_by-map (λ c. is_none (renamed.held c).code) name group
      ∙ λ i. count_by (λ b. is_none (r.holds b i).code) group

  place_same : (boat : B) → Known boat →
      finishing_place same_c renamed (name boat) ≡ finishing_place same_b race boat
  place_same boat known =
      let before = before_first (in_group same_b boat) race.order in
      let ahead : before_first (in_group same_c (name boat)) renamed.order
      ≡ map (map name) before = ap (before_first (in_group same_c (name boat))) r.finish
      ∙ before_map (map name) (in_group same_c (name boat)) (in_group same_b boat)
      (group_same boat known) race.order in
      ap (λ n. 1 + n) (ap (sum_by (finishers renamed)) ahead
      ∙ sum_by-map (finishers renamed) (map name) before
      ∙ λ i. sum_by (λ g. finishers_same g i) before)

  sharing_same : (boat : B) → Known boat →
      sharing same_c renamed (name boat) ≡ sharing same_b race boat
  sharing_same boat known =
      let group = unwrap_or (find (in_group same_b boat) race.order) [] in
      let hers : unwrap_or (find (in_group same_c (name boat)) renamed.order) [] ≡ map name group =
      ap (λ gs. unwrap_or (find (in_group same_c (name boat)) gs) []) r.finish
      ∙ found_map name (in_group same_c (name boat)) (in_group same_b boat)
      (group_same boat known) race.order in
      ap (finishers renamed) hers ∙ finishers_same group

  entered_same : length renamed.entered ≡ length race.entered
  entered_same = ap length r.entry_list ∙ length-map race.entered name

  came_same : count_by (λ c. came (status same_c renamed c)) renamed.entered
      ≡ count_by (λ b. came (status same_b race b)) race.entered
  came_same =
      ap (count_by (λ c. came (status same_c renamed c))) r.entry_list
      ∙ count_map_known Known name (λ c. came (status same_c renamed c))
      (λ b. came (status same_b race b)) (λ x known. ap came (status_same x known)) race.entered
      r.all_known

  dnf_same : (rules : RulesParts) → dnf same_c rules renamed ≡ dnf same_b rules race
  dnf_same rules i = dnf_by rules.absent (entered_same i) (came_same i)

  plain_same : (rules : RulesParts) (boat : B) → Known boat →
      plain same_c rules renamed (name boat) ≡ plain same_b rules race boat
  plain_same rules boat known i =
      let dnf = dnf_same rules i in
      let points = 10 * place_same boat known i + 5 * (sharing_same boat known i - 1) in
      let base = base_by (status_same boat known i) points (entered_same i) dnf in
      max base (min (base + 10 * penalty_points rules dnf (r.holds boat i)) (10 * dnf))

  -- what came of a boat is the same
  pub outcome_same : (rules : RulesParts) (boat : B) → Known boat →
      outcome same_c rules renamed (name boat) ≡ outcome same_b rules race boat
  outcome_same rules boat known i = record {
    plain = plain_same rules boat known i;
    held = r.holds boat i;
    placed = order_same boat known i;
  }

  base_same : (rules : RulesParts) (boat : B) → Known boat →
      base same_c rules renamed (name boat) ≡ base same_b rules race boat
  base_same rules boat known i =
      let points = 10 * place_same boat known i + 5 * (sharing_same boat known i - 1) in
      base_by (status_same boat known i) points (entered_same i) (dnf_same rules i)

  -- and so is what the race is scored by
  pub basis_same : (rules : RulesParts) →
      race_basis same_c rules renamed ≡ race_basis same_b rules race
  basis_same rules i = record {
    entered = entered_same i;
    came = came_same i;
    dnf = dnf_same rules i;
    twenty_percent = twenty_percent_of (dnf_same rules i);
  }

  -- each boat's score in its parts
  pub scoring_same : (rules : RulesParts) (boat : B) → Known boat →
      scoring same_c rules renamed (name boat) ≡ scoring same_b rules race boat
  scoring_same rules boat known i = record {
    status = status_code (status_same boat known i);
    came = came (status_same boat known i);
    held = r.holds boat i;
    base = base_same rules boat known i;
    penalty = penalty_points rules (dnf_same rules i) (r.holds boat i);
    plain = plain_same rules boat known i;
    score = score_of (outcome_same rules boat known i);
  }

  group_renamed : (n : ℕ) (group : List B) →
      placed_group renamed (n, map name group) ≡ renamed_group name (placed_group race (n, group))
  group_renamed n group i =
      let ahead : sum_by (finishers renamed) (take n renamed.order)
      ≡ sum_by (finishers race) (take n race.order) =
      (λ j. sum_by (finishers renamed) (take n (r.finish j)))
      ∙ ap (sum_by (finishers renamed)) (take-map (map name) n race.order)
      ∙ sum_by-map (finishers renamed) (map name) (take n race.order)
      ∙ (λ j. sum_by (λ g. finishers_same g j) (take n race.order)) in
      record { place = 1 + ahead i; sharing = finishers_same group i; boats = map name group }

  groups_renamed : (n : ℕ) (groups : List (List B)) →
      map (placed_group renamed) (enumerate_from n (map (map name) groups))
      ≡ map (renamed_group name) (map (placed_group race) (enumerate_from n groups))
  groups_renamed n [] = refl
  groups_renamed n (group ∷ groups) =
      λ i. group_renamed n group i ∷ groups_renamed (n + 1) groups i

  -- and the groups with their places
  pub groups_same : placed_groups renamed ≡ map (renamed_group name) (placed_groups race)
  groups_same =
      ap (λ order. map (placed_group renamed) (enumerate_from 0 order)) r.finish
      ∙ groups_renamed 0 race.order
