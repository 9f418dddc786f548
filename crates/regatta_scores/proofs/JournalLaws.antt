-- What the commands of a journal change in the standing, and what they don't.
use Rattle.std.proofs.Common.{◌≡◌, ◌≢◌, ℕ, Bool, true, false, cond, ◌||◌, ◌⊎◌, List, [], ◌∷◌, ◌++◌, refl, ap}
use Rattle.std.proofs.Common.{◌∙◌, sym, length, map, filter, filter_map, nat_eq, Option, Some, unwrap_or}
use Rattle.std.proofs.Common.{None}
use mathlib.Core.Logic.{inl, inr}
use Rattle.std.specs.List.{cons_option, range_with_len, after_last, list_any, last_or}
use Rattle.std.proofs.lemmas.List.Sums.{fold-append}
use Rattle.std.proofs.lemmas.Bool.{ne_eqb, false_from_ne_true}
use Rattle.std.specs.Cmp.Lexicographic.{bytes_decides}
use borrow.Author.Tests.{eqb-true, eqb-false}
use Rattle.regatta_terms.specs.Effects.{Act, Places, Decides, ByTime}
use Rattle.regatta_terms.specs.Effects.{Decision, Effect, InRace, effect}
use Rattle.regatta_terms.specs.Entries.{EntryParts}
use Rattle.regatta_terms.specs.Rules.{RulesParts}
use Rattle.regatta_terms.specs.declared.limits.TheConstants.{MAX_RACES}
use Rattle.regatta_terms.specs.declared.sail.Sail.{Sail}
use Rattle.regatta_scores.specs.declared.boats.RaceScore.{RaceScore}
use Rattle.regatta_scores.specs.declared.table.Row.{Row}
use Rattle.regatta_scores.specs.Changes.{with_decision}
use Rattle.regatta_scores.specs.CorrectedTimes.{order_of_times}
use Rattle.regatta_scores.specs.Journal.{Journal, same_sail, sail_entered, entered, act_in, acts}
use Rattle.regatta_scores.specs.Journal.{order, order_after, lasting_times, time_left, ends_time}
use Rattle.regatta_scores.specs.Journal.{decision_on, is_clear, race_counts, held, is_scored, scored}
use Rattle.regatta_scores.specs.Lines.{line_by, row_by}
use Rattle.regatta_scores.specs.Outcomes.{outcome, score_of, scores}
use Rattle.regatta_scores.specs.RacePoints.{Race, journal_race}
use Rattle.regatta_scores.specs.RankLaws.{lines}
use Rattle.regatta_scores.specs.Ranking.{place}
use Rattle.regatta_scores.specs.Standing.{row, sorted_rows, standing}
use Rattle.regatta_scores.specs.JournalLaws as law
use Rattle.regatta_scores.proofs.Apart.{same_entered, other_acts, one_act, same_race, done_by, acts_append}
use Rattle.regatta_scores.proofs.FitRows.{row_fits}
use Rattle.regatta_scores.proofs.LastingTimes.{order_by}
use Rattle.regatta_scores.proofs.Members.{all_at}
use Rattle.regatta_scores.proofs.OneMore.{held_from, held_by, held_step, counts_by}
use Rattle.regatta_scores.proofs.StandingRows.{standing_has_the_entered}

-- ---- one more decision

pub decisions_add : law.DecisionsAdd
decisions_add journal entry race boat decision does =
    ap (λ done. held_from done boat)
    (one_act journal entry race (Decides boat decision) does)
    ∙ held_step boat (acts journal race) (Decides boat decision)
    ∙ ap (λ b. cond b (with_decision (held journal race boat) decision) (held journal race boat))
    ((bytes_decides boat boat).1 refl)

-- ---- cells

pub each_race_has_a_cell : law.EachRaceHasACell
each_race_has_a_cell rules journal r has =
    let all = lines rules journal in
    let is : r ≡ row rules journal all r.sail =
    all_at (λ (x : Row). x ≡ row rules journal all x.sail) (standing rules journal).rows r
    (standing_has_the_entered rules journal).hers has in
    ap (λ (x : Row). length x.cells) is ∙ (row_fits rules journal all r.sail).a2_2

-- ---- journals that say the same

module _ (rules : RulesParts) (old new : Journal) (boats : entered new ≡ entered old)
    (orders : (race : ℕ) → order rules new race ≡ order rules old race)
    (holds : (race : ℕ) (boat : Sail) → held new race boat ≡ held old race boat)
    (counts : (race : ℕ) → is_scored new race ≡ is_scored old race) where
  pub same_standing : standing rules new ≡ standing rules old
  same_standing i =
      let told = filter (λ r. counts r i) (range_with_len 1 MAX_RACES) in
      let race : ℕ → Race Sail =
      λ r. record { entered = boats i; order = orders r i; held = λ b. holds r b i } in
      let hers : Sail → List RaceScore =
      λ b. map (λ r. score_of (outcome same_sail rules (race r) b)) told in
      let all = map (λ b. line_by rules (hers b)) (boats i) in
      record {
        races = told;
        rows = sorted_rows (map (λ b. row_by b (place all (line_by rules (hers b)))
            (line_by rules (hers b)) (hers b)) (boats i));
      }

pub each_race_tells_itself : law.EachRaceTellsItself
each_race_tells_itself rules journal other boats done =
    same_standing rules other journal boats (λ race. ap (order_by rules) (done race))
    (λ race boat. ap (λ acts. held_from acts boat) (done race))
    (λ race. ap counts_by (done race))

-- ---- two neighbours change places

crossed : {X : Type 0} (x y : Option X) (rest : List X) → (x ≡ None) ⊎ (y ≡ None) →
    cons_option x (cons_option y rest) ≡ cons_option y (cons_option x rest)
crossed None y rest one = refl
crossed (Some x) None rest one = refl
crossed (Some x) (Some y) rest (inl e) = cc
crossed (Some x) (Some y) rest (inr e) = cc

swapped : {X : Type 0} (f : Effect → Option X) (before after : Journal) (a b : EntryParts) →
    (f (effect a.command) ≡ None) ⊎ (f (effect b.command) ≡ None) →
    filter_map f (map done_by (before ++ a ∷ b ∷ after))
    ≡ filter_map f (map done_by (before ++ b ∷ a ∷ after))
swapped f [] after a b one =
    crossed (f (effect a.command)) (f (effect b.command)) (filter_map f (map done_by after)) one
swapped f (entry ∷ before) after a b one =
    ap (cons_option (f (effect entry.command))) (swapped f before after a b one)

module _ (before after : Journal) (a b : EntryParts) (race other : ℕ) (act next : Act)
    (is_a : effect a.command ≡ InRace race act) (is_b : effect b.command ≡ InRace other next) where
  abbrev one : Journal
  one = before ++ a ∷ b ∷ after

  abbrev two : Journal
  two = before ++ b ∷ a ∷ after

  same_boats : entered one ≡ entered two
  same_boats = swapped sail_entered before after a b (inl (ap sail_entered is_a))

  elsewhere : (r q : ℕ) (x : Act) → nat_eq r q ≡ false → act_in r (InRace q x) ≡ None
  elsewhere r q x e = ap (λ t. cond t (Some x) None) e

  same_acts_but : (r : ℕ) → (nat_eq r race ≡ false) ⊎ (nat_eq r other ≡ false) →
      acts one r ≡ acts two r
  same_acts_but r (inl e) =
      swapped (act_in r) before after a b (inl (ap (act_in r) is_a ∙ elsewhere r race act e))
  same_acts_but r (inr e) =
      swapped (act_in r) before after a b (inr (ap (act_in r) is_b ∙ elsewhere r other next e))

  one_of : race ≢ other → (r : ℕ) → (nat_eq r race ≡ false) ⊎ (nat_eq r other ≡ false)
  one_of apart r = by (nat_eq r race) refl
    where
      by : (t : Bool) → nat_eq r race ≡ t → (nat_eq r race ≡ false) ⊎ (nat_eq r other ≡ false)
      by true e = inr (ne_eqb r other (λ same. apart (sym (eqb-true r race e) ∙ same)))
      by false e = inl e

pub races_in_any_order : law.RacesInAnyOrder
races_in_any_order rules before after a b race other act next is_a is_b apart =
    each_race_tells_itself rules (before ++ a ∷ b ∷ after) (before ++ b ∷ a ∷ after)
    (same_boats before after a b race other act next is_a is_b)
    (λ r. same_acts_but before after a b race other act next is_a is_b r
    (one_of before after a b race other act next is_a is_b apart r))

-- ---- decisions on two boats

module _ (boat next : Sail) (decision second : Decision) where
  abbrev first_act : Act
  first_act = Decides boat decision

  abbrev second_act : Act
  second_act = Decides next second

  no_time_ends : (sail : Sail) (before after : List Act) →
      list_any (ends_time sail) (before ++ first_act ∷ second_act ∷ after)
      ≡ list_any (ends_time sail) (before ++ second_act ∷ first_act ∷ after)
  no_time_ends sail [] after = refl
  no_time_ends sail (act ∷ before) after =
      ap (λ t. ends_time sail act || t) (no_time_ends sail before after)

  same_left : (act : Act) (before after : List Act) →
      time_left act (before ++ first_act ∷ second_act ∷ after)
      ≡ time_left act (before ++ second_act ∷ first_act ∷ after)
  same_left (Places sail (ByTime seconds)) before after =
      ap (λ t. cond t [] (record { boat = sail; seconds = seconds } ∷ []))
      (no_time_ends sail before after)
  same_left _ before after = refl

  same_times : (before after : List Act) →
      lasting_times (before ++ first_act ∷ second_act ∷ after)
      ≡ lasting_times (before ++ second_act ∷ first_act ∷ after)
  same_times [] after = refl
  same_times (act ∷ before) after =
      λ i. same_left act before after i ++ same_times before after i

  same_order : (rules : RulesParts) (before after : List Act) →
      order_by rules (before ++ first_act ∷ second_act ∷ after)
      ≡ order_by rules (before ++ second_act ∷ first_act ∷ after)
  same_order rules before after i =
      cond rules.handicap (order_of_times (same_times before after i))
      ((fold-append order_after [] before (first_act ∷ second_act ∷ after)
      ∙ sym (fold-append order_after [] before (second_act ∷ first_act ∷ after))) i)

  told_swapped : {X : Type 0} (f : Act → Option X) (before after : List Act) →
      (f first_act ≡ None) ⊎ (f second_act ≡ None) →
      filter_map f (before ++ first_act ∷ second_act ∷ after)
      ≡ filter_map f (before ++ second_act ∷ first_act ∷ after)
  told_swapped f [] after free = crossed (f first_act) (f second_act) (filter_map f after) free
  told_swapped f (act ∷ before) after free =
      ap (cons_option (f act)) (told_swapped f before after free)

  none_for : (b sail : Sail) (d : Decision) → same_sail b sail ≡ false →
      decision_on b (Decides sail d) ≡ None
  none_for b sail d e = ap (λ t. cond t (Some d) None) e

  one_boat : boat ≢ next → (b : Sail) →
      (decision_on b first_act ≡ None) ⊎ (decision_on b second_act ≡ None)
  one_boat apart b = by (same_sail b boat) refl
    where
      by : (t : Bool) → same_sail b boat ≡ t →
          (decision_on b first_act ≡ None) ⊎ (decision_on b second_act ≡ None)
      by true e =
          inr (none_for b next second (false_from_ne_true _ (λ f.
          apart (sym ((bytes_decides b boat).0 e) ∙ (bytes_decides b next).0 f))))
      by false e = inl (none_for b boat decision e)

  same_held : boat ≢ next → (b : Sail) (before after : List Act) →
      held_from (before ++ first_act ∷ second_act ∷ after) b
      ≡ held_from (before ++ second_act ∷ first_act ∷ after) b
  same_held apart b before after =
      ap (λ ds. held_by (after_last is_clear ds))
      (told_swapped (decision_on b) before after (one_boat apart b))

  same_counts : (before after : List Act) →
      counts_by (before ++ first_act ∷ second_act ∷ after)
      ≡ counts_by (before ++ second_act ∷ first_act ∷ after)
  same_counts before after =
      ap (λ os. unwrap_or (last_or None os) false)
      (told_swapped race_counts before after (inl refl))

-- what doesn't depend on the order of two acts doesn't depend on that of two entries
module _ (before after : Journal) (a b : EntryParts) (race other : ℕ) (act next : Act)
    (is_a : effect a.command ≡ InRace race act) (is_b : effect b.command ≡ InRace other next)
    {X : Type 0} (f : List Act → X)
    (same : (early late : List Act) → f (early ++ act ∷ next ∷ late)
    ≡ f (early ++ next ∷ act ∷ late)) where
  told_of : (r : ℕ) →
      f (acts (before ++ a ∷ b ∷ after) r) ≡ f (acts (before ++ b ∷ a ∷ after) r)
  told_of r = by (nat_eq r race) refl (nat_eq r other) refl
    where
      by : (t : Bool) → nat_eq r race ≡ t → (u : Bool) → nat_eq r other ≡ u →
          f (acts (before ++ a ∷ b ∷ after) r) ≡ f (acts (before ++ b ∷ a ∷ after) r)
      by false e u g =
          ap f (same_acts_but before after a b race other act next is_a is_b r (inl e))
      by true e false g =
          ap f (same_acts_but before after a b race other act next is_a is_b r (inr g))
      by true e true g =
          let hers : act_in r (effect a.command) ≡ Some act =
          ap (act_in r) is_a ∙ ap (λ t. cond t (Some act) None) e in
          let second : act_in r (effect b.command) ≡ Some next =
          ap (act_in r) is_b ∙ ap (λ t. cond t (Some next) None) g in
          let rest = acts after r in
          ap f (acts_append before (a ∷ b ∷ after) r
          ∙ (λ i. acts before r ++ cons_option (hers i) (cons_option (second i) rest)))
          ∙ same (acts before r) rest
          ∙ sym (ap f (acts_append before (b ∷ a ∷ after) r
          ∙ (λ i. acts before r ++ cons_option (second i) (cons_option (hers i) rest))))

pub boats_in_any_order : law.BoatsInAnyOrder
boats_in_any_order rules before after a b race other boat next decision second is_a is_b apart =
    let act = Decides boat decision in
    let later = Decides next second in
    same_standing rules (before ++ b ∷ a ∷ after) (before ++ a ∷ b ∷ after)
    (same_boats before after a b race other act later is_a is_b)
    (told_of before after a b race other act later is_a is_b (order_by rules)
    (same_order boat next decision second rules))
    (λ r sail. told_of before after a b race other act later is_a is_b
    (λ done. held_from done sail) (same_held boat next decision second apart sail) r)
    (told_of before after a b race other act later is_a is_b counts_by
    (same_counts boat next decision second))

-- ---- a race that doesn't count

map_kept : {A B : Type 0} (p : A → Bool) (f g : A → B) → ((x : A) → p x ≡ true → f x ≡ g x) →
    (xs : List A) → map f (filter p xs) ≡ map g (filter p xs)
map_kept p f g same [] = refl
map_kept {A} {B} p f g same (x ∷ xs) = by (p x) refl (map_kept p f g same xs)
  where
    by : (t : Bool) → p x ≡ t → map f (filter p xs) ≡ map g (filter p xs) →
        map f (cond t (x ∷ filter p xs) (filter p xs))
        ≡ map g (cond t (x ∷ filter p xs) (filter p xs))
    by true e rest = λ i. same x e i ∷ rest i
    by false e rest = rest

module _ (rules : RulesParts) (journal : Journal) (entry : EntryParts) (race : ℕ) (act : Act)
    (is : effect entry.command ≡ InRace race act) (before : is_scored journal race ≡ false)
    (after : is_scored (journal ++ entry ∷ []) race ≡ false) where
  counts_same : (r : ℕ) → is_scored (journal ++ entry ∷ []) r ≡ is_scored journal r
  counts_same r = by (nat_eq r race) refl
    where
      by : (t : Bool) → nat_eq r race ≡ t →
          is_scored (journal ++ entry ∷ []) r ≡ is_scored journal r
      by true e =
          let same = eqb-true r race e in
          ap (is_scored (journal ++ entry ∷ [])) same ∙ after ∙ sym before
          ∙ sym (ap (is_scored journal) same)
      by false e =
          ap counts_by (other_acts journal entry race r act is (eqb-false r race e))

  same_scored : scored (journal ++ entry ∷ []) ≡ scored journal
  same_scored i = filter (λ r. counts_same r i) (range_with_len 1 MAX_RACES)

  never_here : (r : ℕ) → is_scored journal r ≡ true → r ≢ race
  never_here r counts same = clash (sym counts ∙ ap (is_scored journal) same ∙ before)
    where
      clash : true ≡ false → ⊥
      clash e = cc

  same_scores : (boat : Sail) →
      scores rules (journal ++ entry ∷ []) boat ≡ scores rules journal boat
  same_scores boat =
      let score = λ (j : Journal) (r : ℕ).
      score_of (outcome same_sail rules (journal_race rules j r) boat) in
      (λ i. map (score (journal ++ entry ∷ [])) (same_scored i))
      ∙ map_kept (is_scored journal) (score (journal ++ entry ∷ [])) (score journal)
      (λ r counts. ap (λ m. score_of (outcome same_sail rules m boat))
      (same_race rules journal (journal ++ entry ∷ []) r
      (same_entered journal entry race act is)
      (other_acts journal entry race r act is (never_here r counts))))
      (range_with_len 1 MAX_RACES)

pub uncounted_races_dont_matter : law.UncountedRacesDontMatter
uncounted_races_dont_matter rules journal entry race act is before after i =
    let each = λ (b : Sail). same_scores rules journal entry race act is before after b i in
    let boats = same_entered journal entry race act is i in
    record {
      races = same_scored rules journal entry race act is before after i;
      rows = sorted_rows (map (λ b. row_by b (place (map (λ c. line_by rules (each c)) boats)
          (line_by rules (each b))) (line_by rules (each b)) (each b)) boats);
    }
