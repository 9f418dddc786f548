-- The points for finishing places are those of places 1 to n.
use Rattle.std.proofs.Common.{◌≡◌, ℕ, zero, suc, ◌+◌, ◌-◌, ◌*◌, Bool, true, false, cond, ◌||◌, List}
use Rattle.std.proofs.Common.{[], ◌∷◌, ◌++◌, refl, ap, ◌∙◌, sym, arith, append_assoc, count_by}
use Rattle.std.proofs.Common.{sum_by, Option, Some, None, is_none, ◌<◌, ◌≤◌, take, drop, get_or}
use Rattle.std.proofs.Common.{length, nat_eq, find, unwrap_or, drop-cons}
use Rattle.std.specs.List.{AllByRecursion, range_with_len, before_first, position_or_len}
use Rattle.std.proofs.Math.Nat.{add-mul}
use Rattle.std.proofs.lemmas.List.Sums.{sum_by-cons, sum_by_push, sum_by-append}
use Rattle.std.specs.Cmp.Lexicographic.{bytes_decides}
use Rattle.std.proofs.lemmas.Bool.{or_right, false_from_ne_true}
use Rattle.std.proofs.lemmas.List.{take-append-drop}
use Rattle.std.proofs.lemmas.List.Folds.{list_any_more}
use Rattle.std.proofs.Math.Seq.{take-append_seam}
use Rattle.regatta_terms.specs.declared.sail.Sail.{Sail}
use Rattle.regatta_terms.specs.declared.command.Code.{Code}
use Rattle.regatta_scores.specs.Order.{in_group, stands_in, times_placed}
use Rattle.regatta_scores.specs.Journal.{same_sail}
use Rattle.regatta_scores.specs.RacePoints.{Race, status, status_by, finishers, race_of}
use Rattle.regatta_scores.specs.RacePoints.{place_points}
use Rattle.regatta_scores.specs.RaceLaws.{NobodyTwice, TiesShareEqually, PlacesAreSharedOut}
use Rattle.regatta_scores.specs.RaceLaws.{is_finished, finish_points, points_of_places}
use Rattle.regatta_scores.specs.RaceLaws.{finishing_place, sharing}
use Rattle.regatta_scores.specs.PlacedPoints.{most_place_points}
use Rattle.regatta_scores.specs.declared.sheet.Held.{Held}
use Rattle.regatta_scores.proofs.Counts.{count_cons, any_counts}

-- points for place p shared by k boats, in tenths (A4, A7)
abbrev pub shared_points : ℕ → ℕ → ℕ
shared_points p k = 10 * p + 5 * (k - 1)

-- the groups ahead of hers are those ahead of the one that she is in
group_of : {B : Type 0} (same : B → B → Bool) (boat : B) (ahead : List (List B))
    (group : List B) (behind : List (List B)) →
    times_placed same (ahead ++ group ∷ behind) boat ≤ 1 → in_group same boat group ≡ true
    → (before_first (in_group same boat) (ahead ++ group ∷ behind) ≡ ahead)
    × (find (in_group same boat) (ahead ++ group ∷ behind) ≡ Some group)
    × (stands_in same boat (ahead ++ group ∷ behind) ≡ true)
group_of same boat [] group behind once here = (rw here refl, rw here refl, rw here refl)
group_of same boat (first ∷ ahead) group behind once here =
    let order = ahead ++ group ∷ behind in
    let counted = count_by (λ other. same other boat) in
    let split = sum_by-cons counted first order in
    let parts = sum_by-append counted ahead (group ∷ behind) in
    let hers = sum_by-cons counted group behind in
    let one : 1 ≤ counted group = any_counts (λ other. same other boat) group here in
    let rest : times_placed same order boat ≤ 1 = omega (arith, split) in
    let not_first : in_group same boat first ≡ false =
    false_from_ne_true _ (λ e. (let has = any_counts (λ other. same other boat) first e in
    omega (arith, has, parts, hers, one, split, once))) in
    let found = group_of same boat ahead group behind rest here in
    let longer : ◌≡◌ {A = List (List _)}
    (take (1 + position_or_len (in_group same boat) order) (first ∷ order))
    (first ∷ before_first (in_group same boat) order) =
    (let e : 1 + position_or_len (in_group same boat) order
    ≡ suc (position_or_len (in_group same boat) order) = omega arith in rw e refl) in (
      rw not_first (longer ∙ ap (λ groups. first ∷ groups) found.0),
      rw not_first found.1,
      rw not_first found.2,
    )

-- the points for her place depend on the groups ahead of hers, and on her group
pub place_points_at : {B : Type 0} (same : B → B → Bool) (race : Race B) (ahead : List (List B))
    (group : List B) (behind : List (List B)) (boat : B) → race.order ≡ ahead ++ group ∷ behind →
    times_placed same race.order boat ≤ 1 → in_group same boat group ≡ true
    → (place_points same race boat
    ≡ shared_points (1 + sum_by (finishers race) ahead) (finishers race group))
    × (stands_in same boat race.order ≡ true)
place_points_at same race ahead group behind boat split once here =
    let found = group_of same boat ahead group behind (rw split at once) here in
    let before : before_first (in_group same boat) race.order ≡ ahead =
    ap (before_first (in_group same boat)) split ∙ found.0 in
    let hers : unwrap_or (find (in_group same boat) race.order) [] ≡ group =
    ap (λ groups. unwrap_or (find (in_group same boat) groups) []) split
    ∙ ap (λ o. unwrap_or o []) found.1 in (
      λ i. shared_points (1 + sum_by (finishers race) (before i)) (finishers race (hers i)),
      ap (stands_in same boat) split ∙ found.2,
    )

-- a list split at a position
split_at : {A : Type 0} (xs : List A) (i : ℕ) (d : A) → i < length xs →
    xs ≡ take i xs ++ get_or xs i d ∷ drop (suc i) xs
split_at xs i d h = sym (take-append-drop i xs) ∙ ap (λ ys. take i xs ++ ys) (drop-cons xs i d h)

place_points_in : (order : List (List ℕ)) (held : List Held) (i : ℕ) (d : List ℕ) (boat : ℕ) →
    i < length order → times_placed nat_eq order boat ≤ 1 →
    in_group nat_eq boat (get_or order i d) ≡ true → place_points nat_eq (race_of order held) boat
    ≡ shared_points (1 + sum_by (finishers (race_of order held)) (take i order))
    (finishers (race_of order held) (get_or order i d))
place_points_in order held i d boat h once here =
    (place_points_at nat_eq (race_of order held) (take i order) (get_or order i d)
    (drop (suc i) order) boat (split_at order i d h) once here).0

-- ---- one more group is given its points

module _ (order : List (List ℕ)) (held : List Held) (i : ℕ) (d : List ℕ) (within : i < length order)
    (once : (boat : ℕ) → times_placed nat_eq order boat ≤ 1) where
  pub given_more : (boat points : ℕ) (old new : Option ℕ) →
      points ≡ shared_points (1 + sum_by (finishers (race_of order held)) (take i order))
      (finishers (race_of order held) (get_or order i d))
      → old ≡ cond (stands_in nat_eq boat (take i order))
      (Some (place_points nat_eq (race_of order held) boat)) None
      → new ≡ cond (in_group nat_eq boat (get_or order i d)) (Some points) old
      → new ≡ cond (stands_in nat_eq boat (take (i + 1) order))
      (Some (place_points nat_eq (race_of order held) boat)) None
  given_more boat points old new shared before now =
      by (in_group nat_eq boat (get_or order i d)) refl (stands_in nat_eq boat (take i order))
      before now (list_any_more (in_group nat_eq boat) order i d within)
    where
      hers : Option ℕ
      hers = Some (place_points nat_eq (race_of order held) boat)

      by : (t : Bool) → in_group nat_eq boat (get_or order i d) ≡ t → (s : Bool) →
          old ≡ cond s hers None → new ≡ cond t (Some points) old →
          stands_in nat_eq boat (take (i + 1) order) ≡ (s || t) →
          new ≡ cond (stands_in nat_eq boat (take (i + 1) order)) hers None
      by true here true e f more =
          f ∙ rw more (ap Some (shared ∙ sym
          (place_points_in order held i d boat within (once boat) here)))
      by true here false e f more =
          f ∙ rw more (ap Some (shared ∙ sym
          (place_points_in order held i d boat within (once boat) here)))
      by false here true e f more = f ∙ e ∙ rw more refl
      by false here false e f more = f ∙ e ∙ rw more refl

pub few_more : (t : Bool) (points : ℕ) (old new : Option ℕ) → new ≡ cond t (Some points) old →
    points ≤ most_place_points → unwrap_or old 0 ≤ most_place_points →
    unwrap_or new 0 ≤ most_place_points
few_more true points old new e few before = rw e few
few_more false points old new e few before = rw e before

-- overwriting a whole slice leaves what was written
pub written_whole : {X : Type 0} (new items : List X) (len : ℕ) → length new ≡ len →
    take len (new ++ drop (length new) items) ≡ new
written_whole new items len e = rw (← e) (take-append_seam new (drop (length new) items))

-- ---- the points of places

one_more_tied : (place tied : ℕ) → (tied + 2) * (10 * place + 5 * (tied + 1))
    ≡ 10 * place + (tied + 1) * (10 * (place + 1) + 5 * tied)
one_more_tied place tied = omega arith

pub tied_points : (place tied : ℕ) → tied * shared_points place tied ≡ points_of_places place tied
tied_points place zero = omega arith
tied_points place (suc zero) = omega arith
tied_points place (suc (suc tied)) =
    let number : suc (suc tied) ≡ tied + 2 = omega arith in
    let others : suc (suc tied) - 1 ≡ tied + 1 = omega arith in
    let fewer : suc tied ≡ tied + 1 = omega arith in
    let fewer_others : suc tied - 1 ≡ tied = omega arith in
    let rest : (tied + 1) * (10 * (place + 1) + 5 * tied)
    ≡ points_of_places (place + 1) (suc tied) =
    sym (λ i. fewer i * (10 * (place + 1) + 5 * fewer_others i))
    ∙ tied_points (place + 1) (suc tied) in
    (λ i. number i * (10 * place + 5 * others i)) ∙ one_more_tied place tied
    ∙ ap (λ n. 10 * place + n) rest
    ∙ sym (sum_by-cons (λ p. 10 * p) place (range_with_len (place + 1) (suc tied)))

pub ties_share_equally : TiesShareEqually
ties_share_equally race boat =
    tied_points (finishing_place same_sail race boat) (sharing same_sail race boat)

points_more : (place a b : ℕ) →
    points_of_places place (a + b) ≡ points_of_places place a + points_of_places (place + a) b
points_more place zero b =
    let none : 0 + b ≡ b = omega arith in
    let here : place + 0 ≡ place = omega arith in
    let sum : points_of_places (place + 0) b ≡ 0 + points_of_places (place + 0) b = omega arith in
    ap (points_of_places place) none ∙ ap (λ n. points_of_places n b) (sym here) ∙ sum
points_more place (suc a) b =
    let longer : suc a + b ≡ suc (a + b) = omega arith in
    let next : place + 1 + a ≡ place + suc a = omega arith in
    let later : points_of_places (place + 1 + a) b ≡ points_of_places (place + suc a) b =
    ap (λ n. points_of_places n b) next in
    let all = ap (points_of_places place) longer
    ∙ sum_by-cons (λ p. 10 * p) place (range_with_len (place + 1) (a + b)) in
    let first = sum_by-cons (λ p. 10 * p) place (range_with_len (place + 1) a) in
    omega (arith, all, first, later, points_more (place + 1) a b)

-- ---- sums, element by element

sum_same : {X : Type 0} (f g : X → ℕ) (xs : List X) → AllByRecursion (λ x. f x ≡ g x) xs →
    sum_by f xs ≡ sum_by g xs
sum_same f g [] all = refl
sum_same f g (x ∷ xs) all =
    sum_by-cons f x xs ∙ (λ i. all.0 i + sum_same f g xs all.1 i) ∙ sym (sum_by-cons g x xs)

sum_constant : {X : Type 0} (p : X → Bool) (n : ℕ) (xs : List X) →
    sum_by (λ x. cond (p x) n 0) xs ≡ count_by p xs * n
sum_constant p n [] = omega arith
sum_constant p n (x ∷ xs) =
    sum_by-cons (λ y. cond (p y) n 0) x xs ∙ by (p x) (sum_constant p n xs)
    ∙ ap (λ k. k * n) (sym (count_cons p x xs))
  where
    by : (b : Bool) → sum_by (λ y. cond (p y) n 0) xs ≡ count_by p xs * n →
        cond b n 0 + sum_by (λ y. cond (p y) n 0) xs ≡ (cond b 1 0 + count_by p xs) * n
    by true rest = omega (arith, add-mul 1 (count_by p xs) n, rest)
    by false rest = omega (arith, add-mul 0 (count_by p xs) n, rest)

pub all_by : {X : Type 0} (P Q : X → Type 0) → ((x : X) → P x → Q x) → (xs : List X) →
    AllByRecursion P xs → AllByRecursion Q xs
all_by P Q f [] all = tt
all_by P Q f (x ∷ xs) all = (f x all.0, all_by P Q f xs all.1)

-- ---- the boats of a group are in it

same_itself : (boat : Sail) → same_sail boat boat ≡ true
same_itself boat = (bytes_decides boat boat).1 refl

pub members : (group : List Sail) → AllByRecursion (λ boat. in_group same_sail boat group ≡ true) group
members [] = tt
members (first ∷ group) = (
  rw (same_itself first) refl,
  all_by (λ boat. in_group same_sail boat group ≡ true)
      (λ boat. in_group same_sail boat (first ∷ group) ≡ true)
      (λ boat here. or_right (same_sail first boat) (in_group same_sail boat group) here) group
      (members group),
)

-- ---- a race

pub finished_by : (o : Option Code) (b : Bool) → b ≡ true → is_finished (status_by o b) ≡ is_none o
finished_by (Some code) b e = refl
finished_by None true e = refl
finished_by None false e = cc

module _ (race : Race Sail) (once : NobodyTwice race) where
  count_from : (ahead groups : List (List Sail)) → race.order ≡ ahead ++ groups →
      sum_by (count_by (λ boat. is_finished (status same_sail race boat))) groups
      ≡ sum_by (finishers race) groups
  count_from ahead [] split = refl
  count_from ahead (group ∷ groups) split =
      let each : AllByRecursion (λ boat.
      ◌≡◌ {A = ℕ} (cond (is_finished (status same_sail race boat)) 1 0)
      (cond (is_none (race.held boat).code) 1 0)) group
      = all_by (λ boat. in_group same_sail boat group ≡ true)
      (λ boat. ◌≡◌ {A = ℕ} (cond (is_finished (status same_sail race boat)) 1 0)
      (cond (is_none (race.held boat).code) 1 0))
      (λ boat here. ap (λ b. cond b 1 0)
      (finished_by (race.held boat).code (stands_in same_sail boat race.order)
      (place_points_at same_sail race ahead group groups boat split (once boat) here).1)) group
      (members group) in
      let hers =
      sum_same (λ boat. cond (is_finished (status same_sail race boat)) 1 0)
      (λ boat. cond (is_none (race.held boat).code) 1 0) group each in
      let rest =
      count_from (ahead ++ group ∷ []) groups
      (split ∙ sym (append_assoc ahead (group ∷ []) groups)) in
      sum_by-cons (count_by (λ boat. is_finished (status same_sail race boat))) group groups
      ∙ (λ i. hers i + rest i) ∙ sym (sum_by-cons (finishers race) group groups)

  points_from : (ahead groups : List (List Sail)) → race.order ≡ ahead ++ groups →
      sum_by (sum_by (finish_points race)) groups
      ≡ points_of_places (1 + sum_by (finishers race) ahead) (sum_by (finishers race) groups)
  points_from ahead [] split = refl
  points_from ahead (group ∷ groups) split =
      let place = 1 + sum_by (finishers race) ahead in
      let tied = finishers race group in
      let each : AllByRecursion (λ boat. finish_points race boat
      ≡ cond (is_none (race.held boat).code) (shared_points place tied) 0) group
      = all_by (λ boat. in_group same_sail boat group ≡ true) (λ boat. finish_points race boat
      ≡ cond (is_none (race.held boat).code) (shared_points place tied) 0)
      (λ boat here. (let at =
      place_points_at same_sail race ahead group groups boat split (once boat) here in
      λ i. cond (finished_by (race.held boat).code (stands_in same_sail boat race.order) at.1 i)
      (at.0 i) 0)) group (members group) in
      let hers =
      sum_same (finish_points race) (λ boat.
      cond (is_none (race.held boat).code) (shared_points place tied) 0) group each
      ∙ sum_constant (λ boat. is_none (race.held boat).code) (shared_points place tied) group
      ∙ tied_points place tied in
      let counted = sum_by_push (finishers race) ahead group in
      let next : 1 + sum_by (finishers race) (ahead ++ group ∷ []) ≡ place + tied =
      omega (arith, counted) in
      let rest =
      points_from (ahead ++ group ∷ []) groups
      (split ∙ sym (append_assoc ahead (group ∷ []) groups))
      ∙ ap (λ n. points_of_places n (sum_by (finishers race) groups)) next in
      sum_by-cons (sum_by (finish_points race)) group groups ∙ (λ i. hers i + rest i)
      ∙ sym (points_more place tied (sum_by (finishers race) groups))
      ∙ ap (points_of_places place) (sym (sum_by-cons (finishers race) group groups))

pub places_are_shared_out : PlacesAreSharedOut
places_are_shared_out race once =
    points_from race once [] race.order refl
    ∙ ap (points_of_places 1) (sym (count_from race once [] race.order refl))
