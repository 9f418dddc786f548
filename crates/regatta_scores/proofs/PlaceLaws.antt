-- Points for finishing places.
use Rattle.std.proofs.Common.{◌≡◌, ℕ, zero, suc, ◌+◌, ◌*◌, ◌<◌, ◌≤◌, Bool, true, false, cond, ◌||◌}
use Rattle.std.proofs.Common.{List, [], ◌∷◌, ◌++◌, refl, ap, ◌∙◌, sym, arith, append_assoc}
use Rattle.std.proofs.Common.{length, map, filter, take, sum_by, count_by, get_or, is_none, nat_eq}
use Rattle.std.proofs.Common.{Contains, max, min, flat_map}
use Rattle.std.specs.List.{AllByRecursion, range_with_len, before_first, list_any, position_or_len}
use Rattle.std.specs.Cmp.Lexicographic.{bytes_decides}
use Rattle.std.proofs.lemmas.List.{map-append, length-append}
use Rattle.std.proofs.lemmas.List.Elements.{filter-append, recursion_from_All}
use Rattle.std.proofs.lemmas.List.Sums.{sum_by-cons, sum_by-append, length-filter, sum_by_push}
use Rattle.std.proofs.lemmas.Bool.{or_left, or_right}
use borrow.Author.Tests.{eqb-true, eq-eqb}
use Rattle.regatta_terms.specs.declared.sail.Sail.{Sail}
use Rattle.regatta_scores.specs.CorrectedTimes.{CorrectedTime}
use Rattle.regatta_scores.specs.Journal.{same_sail}
use Rattle.regatta_scores.specs.Order.{in_group, stands_in}
use Rattle.regatta_scores.specs.RaceLaws.{NobodyTwice, is_finished}
use Rattle.regatta_scores.specs.RacePoints.{Race, Finished, status, base_by, dnf, finishers}
use Rattle.regatta_scores.specs.RacePoints.{place_points, penalty_points, plain}
use Rattle.regatta_scores.specs.PlaceLaws as law
use Rattle.regatta_scores.proofs.ByTimes.{is_by_times, rises_from, contains_among}
use Rattle.regatta_scores.proofs.Counts.{count_cons, any_counts}
use Rattle.regatta_scores.proofs.Members.{all_passed, member_map}
use Rattle.regatta_scores.proofs.SharedOut.{place_points_at, shared_points, members, finished_by}
use Rattle.regatta_scores.proofs.SharedOut.{all_by}
use Rattle.regatta_scores.proofs.TiedTimes.{among, Rises, above, filter_agree, any_map, any_filter}

-- ---- her own score

finished_rises : (p q n m cap k : ℕ) → p ≤ q →
    max (base_by Finished p n cap) (min (base_by Finished p n cap + 10 * k) (10 * cap))
    ≤ max (base_by Finished q m cap) (min (base_by Finished q m cap + 10 * k) (10 * cap))
finished_rises p q n m cap k h = omega (arith, h)

pub better_places_never_cost : law.BetterPlacesNeverCost
better_places_never_cost rules race other boat hold cap one two h =
    let p = place_points same_sail race boat in
    let q = place_points same_sail other boat in
    let n = length race.entered in
    let m = length other.entered in
    let c = dnf same_sail rules other in
    let k = penalty_points rules c (other.held boat) in
    let first : plain same_sail rules race boat
    ≡ max (base_by Finished p n c) (min (base_by Finished p n c + 10 * k) (10 * c)) =
    (λ i. max (base_by (one i) p n (cap i))
    (min (base_by (one i) p n (cap i) + 10 * penalty_points rules (cap i) (hold i)) (10 * cap i))) in
    let second : plain same_sail rules other boat
    ≡ max (base_by Finished q m c) (min (base_by Finished q m c + 10 * k) (10 * c)) =
    (λ i. max (base_by (two i) q m c) (min (base_by (two i) q m c + 10 * k) (10 * c))) in
    omega (arith, first, second, finished_rises p q n m c k h)

-- ---- boats of one group, and of two

pub tied_boats_score_alike : law.TiedBoatsScoreAlike
tied_boats_score_alike race ahead behind group a b once split in_a in_b =
    (place_points_at same_sail race ahead group behind a split (once a) in_a).0
    ∙ sym (place_points_at same_sail race ahead group behind b split (once b) in_b).0

one_finished : (race : Race Sail) (a : Sail) (group : List Sail) → in_group same_sail a group ≡ true →
    is_none (race.held a).code ≡ true → 1 ≤ finishers race group
one_finished race a [] here free = cc
one_finished race a (x ∷ xs) here free =
    by (same_sail x a) refl here (λ h. one_finished race a xs h free)
  where
    counted : Sail → Bool
    counted boat = is_none (race.held boat).code

    by : (t : Bool) → same_sail x a ≡ t → (t || in_group same_sail a xs) ≡ true →
        (in_group same_sail a xs ≡ true → 1 ≤ finishers race xs) → 1 ≤ finishers race (x ∷ xs)
    by true e h rest =
        let same : x ≡ a = (bytes_decides x a).0 e in
        let one : counted x ≡ true = ap counted same ∙ free in
        let more = count_cons counted x xs in
        let is : ◌≡◌ {A = ℕ} (cond (counted x) 1 0) 1 = ap (λ t. cond t 1 0) one in
        omega (arith, more, is)
    by false e h rest = let more = count_cons counted x xs in omega (arith, more, rest h)

pub ahead_is_better : law.AheadIsBetter
ahead_is_better race first between last group other a b once split in_a in_b free =
    let behind = between ++ other ∷ last in
    let hers = (place_points_at same_sail race first group behind a split (once a) in_a).0 in
    let moved : race.order ≡ (first ++ group ∷ between) ++ other ∷ last =
    split ∙ sym (append_assoc first (group ∷ between) (other ∷ last)) in
    let second = (place_points_at same_sail race (first ++ group ∷ between) other last b moved
    (once b) in_b).0 in
    let parts = sum_by-append (finishers race) first (group ∷ between) in
    let more = sum_by-cons (finishers race) group between in
    let one = one_finished race a group in_a (ap is_none free) in
    omega (arith, hers, second, parts, more, one)

-- ---- a race without ties

range_more : (place a b : ℕ) →
    range_with_len place (a + b) ≡ range_with_len place a ++ range_with_len (place + a) b
range_more place zero b =
    let none : 0 + b ≡ b = omega arith in
    let here : place + 0 ≡ place = omega arith in
    (λ i. range_with_len (sym here i) (none i))
range_more place (suc a) b =
    let longer : suc a + b ≡ suc (a + b) = omega arith in
    let next : place + 1 + a ≡ place + suc a = omega arith in
    ap (range_with_len place) longer
    ∙ ap (λ ps. place ∷ ps) (range_more (place + 1) a b
    ∙ ap (λ n. range_with_len (place + 1) a ++ range_with_len n b) next)

-- of boats that share a place, if they are at most one
alone : (score : Sail → ℕ) (place : ℕ) (boats : List Sail) → length boats ≤ 1 →
    AllByRecursion (λ boat. score boat ≡ shared_points place (length boats)) boats →
    map score boats ≡ map (λ p. 10 * p) (range_with_len place (length boats))
alone score place [] few each = refl
alone score place (boat ∷ []) few each =
    let here : score boat ≡ 10 * place = omega (arith, each.0) in
    λ i. here i ∷ []
alone score place (boat ∷ next ∷ boats) few each = absurd (omega (arith, few))

module _ (race : Race Sail) (once : NobodyTwice race) where
  abbrev finished : Sail → Bool
  finished boat = is_finished (status same_sail race boat)

  abbrev score : Sail → ℕ
  score = place_points same_sail race

  abbrev among_all : List (List Sail) → List Sail
  among_all groups = filter finished (flat_map (λ group. group) groups)

  counted_from : (ahead groups : List (List Sail)) → race.order ≡ ahead ++ groups →
      AllByRecursion (λ group. finishers race group ≤ 1) groups →
      (map score (among_all groups) ≡ map (λ p. 10 * p)
      (range_with_len (1 + sum_by (finishers race) ahead) (sum_by (finishers race) groups)))
      × (length (among_all groups) ≡ sum_by (finishers race) groups)
  counted_from ahead [] split few = (refl, refl)
  counted_from ahead (group ∷ groups) split few =
      let place = 1 + sum_by (finishers race) ahead in
      let tied = finishers race group in
      let at = λ (boat : Sail) (here : in_group same_sail boat group ≡ true).
      place_points_at same_sail race ahead group groups boat split (once boat) here in
      let same : filter finished group ≡ filter (λ boat. is_none (race.held boat).code) group =
      filter_agree (λ boat. in_group same_sail boat group ≡ true) finished
      (λ boat. is_none (race.held boat).code)
      (λ boat here. finished_by (race.held boat).code (stands_in same_sail boat race.order)
      (at boat here).1) group (members group) in
      let long : length (filter finished group) ≡ tied =
      ap length same ∙ length-filter (λ boat. is_none (race.held boat).code) group in
      let each : AllByRecursion
      (λ boat. score boat ≡ shared_points place (length (filter finished group)))
      (filter finished group) =
      all_passed (λ boat. score boat ≡ shared_points place (length (filter finished group)))
      finished group (all_by (λ boat. in_group same_sail boat group ≡ true)
      (λ boat. score boat ≡ shared_points place (length (filter finished group)))
      (λ boat here. (at boat here).0 ∙ ap (shared_points place) (sym long)) group
      (members group)) in
      let hers : map score (filter finished group) ≡ map (λ p. 10 * p) (range_with_len place tied) =
      alone score place (filter finished group) (omega (arith, long, few.0)) each
      ∙ ap (λ n. map (λ p. 10 * p) (range_with_len place n)) long in
      let pushed = sum_by_push (finishers race) ahead group in
      let next : 1 + sum_by (finishers race) (ahead ++ group ∷ []) ≡ place + tied =
      omega (arith, pushed) in
      let rest = counted_from (ahead ++ group ∷ []) groups
      (split ∙ sym (append_assoc ahead (group ∷ []) groups)) few.1 in
      let parts : among_all (group ∷ groups) ≡ filter finished group ++ among_all groups =
      filter-append finished group (flat_map (λ g. g) groups) in
      let all = sum_by-cons (finishers race) group groups in (
        ap (map score) parts ∙ map-append score (filter finished group) (among_all groups)
            ∙ (λ i. hers i ++ (rest.0 ∙ ap (λ n. map (λ p. 10 * p)
            (range_with_len n (sum_by (finishers race) groups))) next) i)
            ∙ sym (map-append (λ p. 10 * p) (range_with_len place tied)
            (range_with_len (place + tied) (sum_by (finishers race) groups)))
            ∙ ap (map (λ p. 10 * p)) (sym (range_more place tied (sum_by (finishers race) groups)))
            ∙ ap (λ n. map (λ p. 10 * p) (range_with_len place n)) (sym all),
        ap length parts ∙ length-append (filter finished group) (among_all groups)
            ∙ (λ i. long i + rest.1 i) ∙ sym all,
      )

pub places_are_counted : law.PlacesAreCounted
places_are_counted race once no_tie =
    let found = counted_from race once [] race.order refl
    (recursion_from_All (λ group. finishers race group ≤ 1) race.order no_tie) in
    found.0 ∙ ap (λ n. map (λ p. 10 * p) (range_with_len 1 n)) (sym found.1)

-- ---- corrected times

-- the groups ahead of the first that passes
first_not : {X : Type 0} (p : X → Bool) (x : X) (xs : List X) → p x ≡ false →
    before_first p (x ∷ xs) ≡ x ∷ before_first p xs
first_not {X} p x xs out =
    let longer : ◌≡◌ {A = List X} (take (1 + position_or_len p xs) (x ∷ xs))
    (x ∷ before_first p xs) =
    (let e : 1 + position_or_len p xs ≡ suc (position_or_len p xs) = omega arith in rw e refl) in
    rw out longer

-- a member that passes is counted
member_counts : {X : Type 0} (p : X → Bool) (xs : List X) (x : X) → Contains xs x → p x ≡ true →
    1 ≤ count_by p xs
member_counts p [] x has passes = absurd (omega (arith, has.1))
member_counts {X} p (y ∷ ys) x has passes = by has.0 has.1 has.2 (member_counts p ys x)
  where
    by : (k : ℕ) → k < length (y ∷ ys) → get_or (y ∷ ys) k x ≡ x →
        (Contains ys x → p x ≡ true → 1 ≤ count_by p ys) → 1 ≤ count_by p (y ∷ ys)
    by zero within at rest =
        let one : ◌≡◌ {A = ℕ} (cond (p y) 1 0) 1 =
        ap (λ z. cond (p z) 1 0) at ∙ ap (λ b. cond b 1 0) passes in
        omega (arith, count_cons p y ys, one)
    by (suc k) within at rest =
        omega (arith, count_cons p y ys, rest (k, omega (arith, within), at) passes)

-- a boat of one time is in the group of that time alone
module _ (b : CorrectedTime Sail) (s : ℕ) where
  abbrev hers : CorrectedTime Sail → Bool
  hers t = same_sail t.boat b.boat

  abbrev timed : CorrectedTime Sail → Bool
  timed t = nat_eq t.seconds s

  own_time_first : (x : CorrectedTime Sail) (xs : List (CorrectedTime Sail)) →
      count_by hers (x ∷ xs) ≤ 1 → x ≡ b → (t : Bool) → timed x ≡ t →
      list_any hers (cond t (x ∷ filter timed xs) (filter timed xs)) ≡ true → s ≡ b.seconds
  own_time_first x xs one at true e found =
      sym (eqb-true x.seconds s e) ∙ ap (λ (t : CorrectedTime Sail). t.seconds) at
  own_time_first x xs one at false e found =
      let first : ◌≡◌ {A = ℕ} (cond (hers x) 1 0) 1 =
      ap (λ (t : CorrectedTime Sail). cond (hers t) 1 0) at
      ∙ ap (λ t. cond t 1 0) ((bytes_decides b.boat b.boat).1 refl) in
      let later = any_counts hers xs (any_filter hers timed xs found) in
      absurd (omega (arith, one, count_cons hers x xs, first, later))

  own_time_later : (x : CorrectedTime Sail) (xs : List (CorrectedTime Sail)) →
      count_by hers (x ∷ xs) ≤ 1 → Contains xs b → (u : Bool) → hers x ≡ u → (t : Bool) →
      list_any hers (cond t (x ∷ filter timed xs) (filter timed xs)) ≡ true →
      list_any hers (filter timed xs) ≡ true
  own_time_later x xs one has true f t found =
      let first : ◌≡◌ {A = ℕ} (cond (hers x) 1 0) 1 = ap (λ v. cond v 1 0) f in
      let later = member_counts hers xs b has ((bytes_decides b.boat b.boat).1 refl) in
      absurd (omega (arith, one, count_cons hers x xs, first, later))
  own_time_later x xs one has false f true found =
      sym (ap (λ v. v || list_any hers (filter timed xs)) f) ∙ found
  own_time_later x xs one has false f false found = found

  own_time : (times : List (CorrectedTime Sail)) → count_by hers times ≤ 1 → Contains times b →
      list_any hers (filter timed times) ≡ true → s ≡ b.seconds
  own_time [] one has found = absurd (omega (arith, has.1))
  own_time (x ∷ xs) one has found = by has.0 has.1 has.2 (own_time xs)
    where
      by : (k : ℕ) → k < length (x ∷ xs) → get_or (x ∷ xs) k b ≡ b →
          (count_by hers xs ≤ 1 → Contains xs b → list_any hers (filter timed xs) ≡ true →
          s ≡ b.seconds) → s ≡ b.seconds
      by zero within at rest = own_time_first x xs one at (timed x) refl found
      by (suc k) within at rest =
          let has_later : Contains xs b = (k, omega (arith, within), at) in
          rest (omega (arith, one, count_cons hers x xs)) has_later
          (own_time_later x xs one has_later (hers x) refl (timed x) found)

-- a boat is in the group of her time
in_hers : (times : List (CorrectedTime Sail)) (a : CorrectedTime Sail) → Contains times a →
    list_any (hers a a.seconds) (filter (timed a a.seconds) times) ≡ true
in_hers [] a has = absurd (omega (arith, has.1))
in_hers (x ∷ xs) a has = by has.0 has.1 has.2 (timed a a.seconds x) refl (in_hers xs a)
  where
    by : (k : ℕ) → k < length (x ∷ xs) → get_or (x ∷ xs) k a ≡ a → (t : Bool) →
        timed a a.seconds x ≡ t →
        (Contains xs a → list_any (hers a a.seconds) (filter (timed a a.seconds) xs) ≡ true) →
        list_any (hers a a.seconds)
        (cond t (x ∷ filter (timed a a.seconds) xs) (filter (timed a a.seconds) xs)) ≡ true
    by zero within at true e rest =
        or_left (hers a a.seconds x) (list_any (hers a a.seconds) (filter (timed a a.seconds) xs))
        (ap (hers a a.seconds) at ∙ (bytes_decides a.boat a.boat).1 refl)
    by zero within at false e rest =
        let is : timed a a.seconds x ≡ true =
        eq-eqb x.seconds a.seconds (ap (λ (t : CorrectedTime Sail). t.seconds) at) in
        let no_way : false ≡ true = sym e ∙ is in cc
    by (suc k) within at true e rest =
        or_right (hers a a.seconds x) (list_any (hers a a.seconds) (filter (timed a a.seconds) xs))
        (rest (k, omega (arith, within), at))
    by (suc k) within at false e rest = rest (k, omega (arith, within), at)

module _ (times : List (CorrectedTime Sail)) (a b : CorrectedTime Sail)
    (once : law.HaveOneTime times) (has_a : Contains times a) (has_b : Contains times b)
    (lower : a.seconds < b.seconds) where
  abbrev group : ℕ → List Sail
  group s = map (λ (t : CorrectedTime Sail). t.boat) (filter (λ t. nat_eq t.seconds s) times)

  group_has : (boat : Sail) (s : ℕ) → in_group same_sail boat (group s)
      ≡ list_any (λ t. same_sail t.boat boat) (filter (λ t. nat_eq t.seconds s) times)
  group_has boat s =
      any_map (λ (t : CorrectedTime Sail). t.boat) (λ o. same_sail o boat)
      (filter (λ t. nat_eq t.seconds s) times)

  in_a : in_group same_sail a.boat (group a.seconds) ≡ true
  in_a = group_has a.boat a.seconds ∙ in_hers times a has_a

  time_of_b : (s : ℕ) → in_group same_sail b.boat (group s) ≡ true → s ≡ b.seconds
  time_of_b s e = own_time b s times (once b.boat) has_b (sym (group_has b.boat s) ∙ e)

  stands_ahead : (rs : List ℕ) → Rises rs → among a.seconds rs ≡ true →
      stands_in same_sail a.boat
      (before_first (in_group same_sail b.boat) (map group rs)) ≡ true
  stands_ahead [] rises found = cc
  stands_ahead (r ∷ rs) rises found =
      by (in_group same_sail b.boat (group r)) refl (nat_eq r a.seconds) refl found
      (stands_ahead rs rises.1)
    where
      by : (t : Bool) → in_group same_sail b.boat (group r) ≡ t → (u : Bool) →
          nat_eq r a.seconds ≡ u → (u || among a.seconds rs) ≡ true →
          (among a.seconds rs ≡ true → stands_in same_sail a.boat
          (before_first (in_group same_sail b.boat) (map group rs)) ≡ true) →
          stands_in same_sail a.boat
          (before_first (in_group same_sail b.boat) (group r ∷ map group rs)) ≡ true
      by true e true f found rest =
          let is_b = time_of_b r e in
          let is_a = eqb-true r a.seconds f in
          absurd (omega (arith, is_b, is_a, lower))
      by true e false f found rest =
          let is_b = time_of_b r e in
          let over = above r a.seconds rs rises.0 found in
          absurd (omega (arith, is_b, over, lower))
      by false e true f found rest =
          ap (stands_in same_sail a.boat)
          (first_not (in_group same_sail b.boat) (group r) (map group rs) e)
          ∙ or_left (in_group same_sail a.boat (group r)) (stands_in same_sail a.boat
          (before_first (in_group same_sail b.boat) (map group rs)))
          (ap (λ s. in_group same_sail a.boat (group s)) (eqb-true r a.seconds f) ∙ in_a)
      by false e false f found rest =
          ap (stands_in same_sail a.boat)
          (first_not (in_group same_sail b.boat) (group r) (map group rs) e)
          ∙ or_right (in_group same_sail a.boat (group r)) (stands_in same_sail a.boat
          (before_first (in_group same_sail b.boat) (map group rs))) (rest found)

pub lower_times_are_ahead : law.LowerTimesAreAhead
lower_times_are_ahead times a b once has_a has_b lower =
    let by_times = is_by_times times in
    let found : among a.seconds by_times.seconds ≡ true =
    contains_among a.seconds by_times.seconds ((by_times.each a.seconds).1
    (member_map (λ (t : CorrectedTime Sail). t.seconds) times a has_a)) in
    ap (λ groups. stands_in same_sail a.boat (before_first (in_group same_sail b.boat) groups))
    by_times.groups
    ∙ stands_ahead times a b once has_a has_b lower by_times.seconds
    (rises_from by_times.seconds by_times.rising) found
