-- The times in force, and the finishing order, after one more act in a race.
use Rattle.std.proofs.Common.{◌≡◌, ℕ, Bool, true, false, cond, not, List, [], ◌∷◌, ◌++◌, refl, ap}
use Rattle.std.proofs.Common.{◌∙◌, sym, subst, append_assoc, filter, fold, ◌||◌, Option, Some, None}
use Rattle.std.specs.List.{list_any, AllByRecursion}
use Rattle.std.proofs.lemmas.List.{append-nil}
use Rattle.std.proofs.lemmas.List.Elements.{filter-append, recursion_from_All}
use Rattle.std.proofs.lemmas.List.Folds.{list_any-append}
use Rattle.std.proofs.lemmas.List.Sums.{fold_push}
use Rattle.std.specs.Cmp.Lexicographic.{bytes_decides}
use borrow.Author.Tests.{not-true}
use Rattle.std.proofs.lemmas.Bool.{false_from_ne_true}
use Rattle.regatta_terms.specs.Effects.{Act, Places, Strikes, Decides, Counts, AtEnd, TiedWith}
use Rattle.regatta_terms.specs.Effects.{AheadOf, ByTime}
use Rattle.regatta_terms.specs.Rules.{RulesParts}
use Rattle.regatta_terms.specs.declared.sail.Sail.{Sail}
use Rattle.regatta_scores.specs.Order.{is_empty, stands_in, HasNoEmptyGroup, without}
use Rattle.regatta_scores.specs.CorrectedTimes.{CorrectedTime, order_of_times, time_in, with_time}
use Rattle.regatta_scores.specs.Journal.{same_sail, order_after, ends_time, time_left}
use Rattle.regatta_scores.specs.Journal.{lasting_times}
use Rattle.regatta_scores.proofs.Members.{all_passed, those_passed}
use Rattle.regatta_scores.proofs.OneMore.{is_fold}
use Rattle.regatta_scores.proofs.TimedOrders.{order_with_time, order_without, stays_by}

-- the boat's time after these acts in a race, if one is in force
abbrev pub time_by : List Act → Sail → Option ℕ
time_by acts boat = time_in same_sail (lasting_times acts) boat

same_is : (x y : Sail) → same_sail x y ≡ true → x ≡ y
same_is x y e = (bytes_decides x y).0 e

is_same : (x : Sail) → same_sail x x ≡ true
is_same x = (bytes_decides x x).1 refl

pub apart_back : (x y : Sail) → same_sail x y ≡ false → same_sail y x ≡ false
apart_back x y h = false_from_ne_true _ (λ e. (let no_way : true ≡ false =
    sym (is_same x) ∙ ap (same_sail x) (sym (same_is y x e)) ∙ h in cc))

-- ---- the times after one more act

left_more : (given : Act) (acts : List Act) (act : Act) → time_left given (acts ++ act ∷ [])
    ≡ filter (λ t. not (ends_time t.boat act)) (time_left given acts)
left_more (Places sail (ByTime seconds)) acts act =
    ap (λ b. cond b [] (record { boat = sail; seconds = seconds } ∷ []))
    (list_any-append (ends_time sail) acts (act ∷ []))
    ∙ by (list_any (ends_time sail) acts) (ends_time sail act) refl
  where
    by : (a b : Bool) → ends_time sail act ≡ b →
        cond (a || (b || false)) [] (record { boat = sail; seconds = seconds } ∷ [])
        ≡ filter (λ (t : CorrectedTime Sail). not (ends_time t.boat act))
        (cond a [] (record { boat = sail; seconds = seconds } ∷ []))
    by true b e = refl
    by false true e = rw e refl
    by false false e = rw e refl
left_more _ acts act = refl

times_push : (acts : List Act) (act : Act) → lasting_times (acts ++ act ∷ [])
    ≡ filter (λ t. not (ends_time t.boat act)) (lasting_times acts) ++ time_left act []
times_push [] act = append-nil (time_left act [])
times_push (given ∷ acts) act =
    let left = filter (λ (t : CorrectedTime Sail). not (ends_time t.boat act)) in
    (λ i. left_more given acts act i ++ times_push acts act i)
    ∙ sym (ap (λ ts. ts ++ time_left act [])
    (filter-append (λ t. not (ends_time t.boat act)) (time_left given acts) (lasting_times acts))
    ∙ append_assoc (left (time_left given acts)) (left (lasting_times acts)) (time_left act []))

-- the times without that of this boat
abbrev pub without_time : List (CorrectedTime Sail) → Sail → List (CorrectedTime Sail)
without_time times boat = filter (λ time. not (same_sail time.boat boat)) times

abbrev pub times_after : List (CorrectedTime Sail) → Act → List (CorrectedTime Sail)
times_after times (Places sail (ByTime seconds)) =
    without_time times sail ++ record { boat = sail; seconds = seconds } ∷ []
times_after times (Strikes sail) = without_time times sail
times_after times _ = times

all_left : {X : Type 0} (xs : List X) → filter (λ x. true) xs ≡ xs
all_left [] = refl
all_left (x ∷ xs) = ap (λ ys. x ∷ ys) (all_left xs)

pub times_more : (acts : List Act) (act : Act) →
    lasting_times (acts ++ act ∷ []) ≡ times_after (lasting_times acts) act
times_more acts (Places sail (ByTime seconds)) = times_push acts (Places sail (ByTime seconds))
times_more acts (Strikes sail) = times_push acts (Strikes sail) ∙ append-nil _
times_more acts (Decides sail decision) =
    times_push acts (Decides sail decision) ∙ append-nil _ ∙ all_left (lasting_times acts)
times_more acts (Counts counts) =
    times_push acts (Counts counts) ∙ append-nil _ ∙ all_left (lasting_times acts)
times_more acts (Places sail AtEnd) =
    times_push acts (Places sail AtEnd) ∙ append-nil _ ∙ all_left (lasting_times acts)
times_more acts (Places sail (TiedWith other)) =
    times_push acts (Places sail (TiedWith other)) ∙ append-nil _ ∙ all_left (lasting_times acts)
times_more acts (Places sail (AheadOf other)) =
    times_push acts (Places sail (AheadOf other)) ∙ append-nil _ ∙ all_left (lasting_times acts)

-- ---- each boat has one time

Distinct : List (CorrectedTime Sail) → Type 0
Distinct [] = Unit {0}
Distinct (t ∷ ts) = AllByRecursion (λ o. same_sail t.boat o.boat ≡ false) ts × Distinct ts

all_pushed : {X : Type 0} (P : X → Type 0) (xs : List X) (x : X) → AllByRecursion P xs → P x →
    AllByRecursion P (xs ++ x ∷ [])
all_pushed P [] x all last = (last, tt)
all_pushed P (y ∷ ys) x all last = (all.0, all_pushed P ys x all.1 last)

-- the times without that of a boat are those of others
left_are_others : (ts : List (CorrectedTime Sail)) (boat : Sail) →
    AllByRecursion (λ t. same_sail t.boat boat ≡ false) (without_time ts boat)
left_are_others ts boat =
    those_passed (λ (o : CorrectedTime Sail). same_sail o.boat boat ≡ false)
    (λ o. not (same_sail o.boat boat)) (λ o h. not-true (same_sail o.boat boat) h) ts

distinct_left : (ts : List (CorrectedTime Sail)) (boat : Sail) → Distinct ts →
    Distinct (without_time ts boat)
unfolding Distinct
distinct_left [] boat apart = tt
distinct_left (t ∷ ts) boat apart = by (same_sail t.boat boat) (distinct_left ts boat apart.1)
  where
    by : (b : Bool) → Distinct (without_time ts boat) →
        Distinct (cond (not b) (t ∷ without_time ts boat) (without_time ts boat))
    by true rest = rest
    by false rest = (
      all_passed (λ o. same_sail t.boat o.boat ≡ false) (λ o. not (same_sail o.boat boat)) ts apart.0,
      rest,
    )

distinct_pushed : (ts : List (CorrectedTime Sail)) (t : CorrectedTime Sail) → Distinct ts →
    AllByRecursion (λ o. same_sail o.boat t.boat ≡ false) ts → Distinct (ts ++ t ∷ [])
unfolding Distinct
distinct_pushed [] t apart others = (tt, tt)
distinct_pushed (o ∷ ts) t apart others = (
  all_pushed (λ x. same_sail o.boat x.boat ≡ false) ts t apart.0 others.0,
  distinct_pushed ts t apart.1 others.1,
)

distinct_after : (ts : List (CorrectedTime Sail)) (act : Act) → Distinct ts →
    Distinct (times_after ts act)
distinct_after ts (Places sail (ByTime seconds)) apart =
    distinct_pushed (without_time ts sail) (record { boat = sail; seconds = seconds })
    (distinct_left ts sail apart) (left_are_others ts sail)
distinct_after ts (Strikes sail) apart = distinct_left ts sail apart
distinct_after ts _ apart = apart

distinct_fold : (acts : List Act) (ts : List (CorrectedTime Sail)) → Distinct ts →
    Distinct (fold times_after ts acts)
distinct_fold [] ts apart = apart
distinct_fold (act ∷ acts) ts apart =
    distinct_fold acts (times_after ts act) (distinct_after ts act apart)

nobody : Distinct []
unfolding Distinct
nobody = tt

distinct : (acts : List Act) → Distinct (lasting_times acts)
distinct acts = subst Distinct (sym (is_fold lasting_times times_after times_more [] acts))
    (distinct_fold acts [] nobody)

own_time : (ts : List (CorrectedTime Sail)) → Distinct ts →
    AllByRecursion (λ t. time_in same_sail ts t.boat ≡ Some t.seconds) ts
unfolding Distinct
own_time [] apart = tt
own_time (t ∷ ts) apart = (
  rw (is_same t.boat) refl,
  wider ts apart.0 (own_time ts apart.1),
)
  where
    wider : (os : List (CorrectedTime Sail)) →
        AllByRecursion (λ o. same_sail t.boat o.boat ≡ false) os →
        AllByRecursion (λ o. time_in same_sail ts o.boat ≡ Some o.seconds) os →
        AllByRecursion (λ o. time_in same_sail (t ∷ ts) o.boat ≡ Some o.seconds) os
    wider [] first rest = tt
    wider (o ∷ os) first rest = (rw (first.0) rest.0, wider os first.1 rest.1)

-- ---- the time of each boat after one more act

time_struck : (ts : List (CorrectedTime Sail)) (boat x : Sail) →
    time_in same_sail (without_time ts boat) x
    ≡ cond (same_sail boat x) None (time_in same_sail ts x)
time_struck [] boat x = by (same_sail boat x)
  where
    by : (b : Bool) → ◌≡◌ {A = Option ℕ} None (cond b None None)
    by true = refl
    by false = refl
time_struck (t ∷ ts) boat x =
    by (same_sail t.boat boat) refl (same_sail t.boat x) refl (same_sail boat x) refl
    (time_struck ts boat x)
  where
    left : List (CorrectedTime Sail)
    left = without_time ts boat

    by : (a : Bool) → same_sail t.boat boat ≡ a → (b : Bool) → same_sail t.boat x ≡ b →
        (c : Bool) → same_sail boat x ≡ c →
        time_in same_sail left x ≡ cond c None (time_in same_sail ts x) →
        time_in same_sail (cond (not a) (t ∷ left) left) x
        ≡ cond c None (cond b (Some t.seconds) (time_in same_sail ts x))
    by true e b f true g rest = rest
    by true e true f false g rest =
        let no_way : false ≡ true =
        sym g ∙ ap (λ s. same_sail s x) (sym (same_is t.boat boat e)) ∙ f in cc
    by true e false f false g rest = rest
    by false e true f true g rest =
        let one : t.boat ≡ boat = same_is t.boat x f ∙ sym (same_is boat x g) in
        let no_way : true ≡ false =
        sym (is_same boat) ∙ ap (λ s. same_sail s boat) (sym one) ∙ e in cc
    by false e true f false g rest = rw f refl
    by false e false f true g rest = rw f rest
    by false e false f false g rest = rw f rest

time_pushed : (ts : List (CorrectedTime Sail)) (t : CorrectedTime Sail) (x : Sail) →
    time_in same_sail ts x ≡ None →
    time_in same_sail (ts ++ t ∷ []) x ≡ cond (same_sail t.boat x) (Some t.seconds) None
time_pushed [] t x h = refl
time_pushed (o ∷ ts) t x h = by (same_sail o.boat x) refl h (time_pushed ts t x)
  where
    by : (b : Bool) → same_sail o.boat x ≡ b →
        cond b (Some o.seconds) (time_in same_sail ts x) ≡ None →
        (time_in same_sail ts x ≡ None → time_in same_sail (ts ++ t ∷ []) x
        ≡ cond (same_sail t.boat x) (Some t.seconds) None) →
        cond b (Some o.seconds) (time_in same_sail (ts ++ t ∷ []) x)
        ≡ cond (same_sail t.boat x) (Some t.seconds) None
    by true e k rest = cc
    by false e k rest = rest k

time_kept : (ts : List (CorrectedTime Sail)) (t : CorrectedTime Sail) (x : Sail) →
    same_sail t.boat x ≡ false → time_in same_sail (ts ++ t ∷ []) x ≡ time_in same_sail ts x
time_kept [] t x h = rw h refl
time_kept (o ∷ ts) t x h =
    ap (λ time. cond (same_sail o.boat x) (Some o.seconds) time) (time_kept ts t x h)

module _ (acts : List Act) (boat : Sail) where
  pub timed_now : (seconds : ℕ) → time_by (acts ++ Places boat (ByTime seconds) ∷ []) boat
      ≡ Some seconds
  timed_now seconds =
      ap (λ ts. time_in same_sail ts boat) (times_more acts (Places boat (ByTime seconds)))
      ∙ time_pushed (without_time (lasting_times acts) boat)
      (record { boat = boat; seconds = seconds }) boat
      (time_struck (lasting_times acts) boat boat ∙ rw (is_same boat) refl) ∙ rw (is_same boat) refl

  pub struck_now : time_by (acts ++ Strikes boat ∷ []) boat ≡ None
  struck_now =
      ap (λ ts. time_in same_sail ts boat) (times_more acts (Strikes boat))
      ∙ time_struck (lasting_times acts) boat boat ∙ rw (is_same boat) refl

-- an act concerns no boat, or another than this one
abbrev pub IsOfOthers : Sail → Act → Type 0
IsOfOthers boat (Places sail placing) = same_sail boat sail ≡ false
IsOfOthers boat (Strikes sail) = same_sail boat sail ≡ false
IsOfOthers boat (Decides sail decision) = same_sail boat sail ≡ false
IsOfOthers boat (Counts counts) = Unit {0}

-- such an act leaves her time as it is
time_stays : (ts : List (CorrectedTime Sail)) (act : Act) (boat : Sail) → IsOfOthers boat act →
    time_in same_sail (times_after ts act) boat ≡ time_in same_sail ts boat
time_stays ts (Places sail (ByTime seconds)) boat h =
    time_kept (without_time ts sail) (record { boat = sail; seconds = seconds }) boat
    (apart_back boat sail h) ∙ time_struck ts sail boat ∙ rw (apart_back boat sail h) refl
time_stays ts (Strikes sail) boat h = time_struck ts sail boat ∙ rw (apart_back boat sail h) refl
time_stays ts _ boat h = refl

pub time_of_others : (acts : List Act) (act : Act) (boat : Sail) → IsOfOthers boat act →
    time_by (acts ++ act ∷ []) boat ≡ time_by acts boat
time_of_others acts act boat h =
    ap (λ ts. time_in same_sail ts boat) (times_more acts act)
    ∙ time_stays (lasting_times acts) act boat h

-- ---- the order after one more act

-- the finishing order after these acts, under the rules of the series
abbrev pub order_by : RulesParts → List Act → List (List Sail)
order_by rules acts =
    cond rules.handicap (order_of_times (lasting_times acts)) (fold order_after [] acts)

-- the order after one more act, given the times in force
abbrev pub order_with : (Sail → Option ℕ) → List (List Sail) → Act → List (List Sail)
order_with time order (Places sail (ByTime seconds)) = with_time time order sail seconds
order_with time order act = order_after order act

-- what an act requires of the order that it changes: the rules use its system, and a boat that is
-- timed isn't in the order
abbrev pub Suits : RulesParts → List (List Sail) → Act → Type 0
Suits rules order (Places sail (ByTime seconds)) =
    (rules.handicap ≡ true) × (stands_in same_sail sail order ≡ false)
Suits rules order (Places sail by_finishing) = rules.handicap ≡ false
Suits rules order _ = Unit {0}

module _ (rules : RulesParts) (acts : List Act) where
  pub order_by_push : (act : Act) → order_by rules (acts ++ act ∷ [])
      ≡ cond rules.handicap (order_of_times (times_after (lasting_times acts) act))
      (order_after (fold order_after [] acts) act)
  order_by_push act i =
      cond rules.handicap (order_of_times (times_more acts act i))
      (fold_push order_after [] acts act i)

  struck_by : (sail : Sail) →
      order_by rules (acts ++ Strikes sail ∷ []) ≡ without same_sail (order_by rules acts) sail
  struck_by sail = order_by_push (Strikes sail) ∙ by rules.handicap
    where
      by : (b : Bool) → cond b (order_of_times (without_time (lasting_times acts) sail))
          (without same_sail (fold order_after [] acts) sail)
          ≡ without same_sail
          (cond b (order_of_times (lasting_times acts)) (fold order_after [] acts)) sail
      by true = order_without same_sail (lasting_times acts) sail
      by false = refl

  -- without corrected times, an act changes the order of finishing
  finished_by : (act : Act) → rules.handicap ≡ false →
      order_by rules (acts ++ act ∷ []) ≡ order_after (order_by rules acts) act
  finished_by act h = rw h (fold_push order_after [] acts act)

  -- with corrected times, a time is added to an order without empty groups
  timed_by : (sail : Sail) (seconds : ℕ) →
      rules.handicap ≡ true → HasNoEmptyGroup (order_by rules acts) →
      stands_in same_sail sail (order_by rules acts) ≡ false →
      order_by rules (acts ++ Places sail (ByTime seconds) ∷ [])
      ≡ with_time (time_by acts) (order_by rules acts) sail seconds
  timed_by sail seconds h full out =
      let now : order_by rules acts ≡ order_of_times (lasting_times acts) = rw h refl in
      let left = without_time (lasting_times acts) sail in
      let new : CorrectedTime Sail = record { boat = sail; seconds = seconds } in
      let later : order_by rules (acts ++ Places sail (ByTime seconds) ∷ [])
      ≡ order_of_times (left ++ new ∷ []) =
      order_by_push (Places sail (ByTime seconds)) ∙ rw h refl in
      later
      ∙ order_with_time (time_by acts) left
      (all_passed (λ t. time_by acts t.boat ≡ Some t.seconds) (λ t. not (same_sail t.boat sail))
      (lasting_times acts) (own_time (lasting_times acts) (distinct acts))) new
      ∙ ap (λ order. with_time (time_by acts) order sail seconds)
      (order_without same_sail (lasting_times acts) sail
      ∙ ap (λ order. without same_sail order sail) (sym now)
      ∙ stays_by same_sail sail (order_by rules acts)
      (recursion_from_All (λ group. is_empty group ≡ false) (order_by rules acts) full) out)

  -- the order of the whole journal is the previous order, changed by the new act
  pub order_by_more : (act : Act) → HasNoEmptyGroup (order_by rules acts) →
      Suits rules (order_by rules acts) act →
      order_by rules (acts ++ act ∷ []) ≡ order_with (time_by acts) (order_by rules acts) act
  order_by_more (Places sail (ByTime seconds)) full suits =
      timed_by sail seconds suits.0 full suits.1
  order_by_more (Places sail AtEnd) full suits = finished_by (Places sail AtEnd) suits
  order_by_more (Places sail (TiedWith other)) full suits =
      finished_by (Places sail (TiedWith other)) suits
  order_by_more (Places sail (AheadOf other)) full suits =
      finished_by (Places sail (AheadOf other)) suits
  order_by_more (Strikes sail) full suits = struck_by sail
  order_by_more (Decides sail decision) full suits = order_by_push (Decides sail decision)
  order_by_more (Counts counts) full suits = order_by_push (Counts counts)
