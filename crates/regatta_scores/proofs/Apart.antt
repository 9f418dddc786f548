-- A command of one race changes no other race.
use Rattle.std.proofs.Common.{◌≡◌, ◌≢◌, ℕ, Bool, true, false, cond, [], ◌∷◌, ◌++◌, refl, ap, List}
use Rattle.std.proofs.Common.{◌∙◌, sym, subst, map, filter_map, nat_eq, Some, None, filter, Option}
use Rattle.std.specs.List.{cons_option, range_with_len}
use Rattle.std.proofs.lemmas.List.{map-append, append-nil}
use Rattle.std.proofs.lemmas.List.Elements.{filter_map-append}
use borrow.Author.Tests.{eqb-true, eq-eqb}
use Rattle.std.specs.Cmp.Lexicographic.{bytes_decides}
use Rattle.std.proofs.lemmas.Bool.{false_from_ne_true, ne_eqb}
use Rattle.regatta_terms.specs.Effects.{Decision, Act, Decides, Effect, InRace, effect, Redresses}
use Rattle.regatta_terms.specs.Entries.{EntryParts}
use Rattle.regatta_terms.specs.Rules.{RulesParts}
use Rattle.regatta_terms.specs.declared.sail.Sail.{Sail}
use Rattle.regatta_terms.specs.declared.limits.TheConstants.{MAX_RACES}
use Rattle.regatta_terms.specs.declared.command.Command.TheVariants.{Redress}
use Rattle.regatta_terms.specs.declared.command.Redress as redress_type
use Rattle.regatta_scores.specs.Journal.{Journal, same_sail, sail_entered, entered, act_in, acts}
use Rattle.regatta_scores.specs.Journal.{order, held, scored}
use Rattle.regatta_scores.specs.RacePoints.{Race, journal_race, status, dnf, plain}
use Rattle.regatta_scores.specs.RaceLaws.{SaysTheSame, RacesAreApart, EnterKeepsRaces}
use Rattle.regatta_scores.specs.declared.sheet.Held.{Held}
use Rattle.regatta_scores.specs.Changes.{with_decision}
use Rattle.regatta_scores.specs.Lines.{line_by}
use Rattle.regatta_scores.specs.Order.{stands_in}
use Rattle.regatta_scores.specs.Outcomes.{score_of, scores}
use Rattle.regatta_scores.specs.RedressLaws.{RedressLeavesOthers}
use Rattle.regatta_scores.proofs.LastingTimes.{order_by, order_by_push}
use Rattle.regatta_scores.proofs.OneMore.{held_from, held_step, counts_by, counts_step}

-- ---- what one more entry does in each race

abbrev pub done_by : EntryParts → Effect
done_by entry = effect entry.command

act_elsewhere : (race other : ℕ) (act : Act) → other ≢ race → act_in other (InRace race act) ≡ None
act_elsewhere race other act apart = ap (λ b. cond b (Some act) None) (ne_eqb other race apart)

pub acts_more : (journal : Journal) (entry : EntryParts) (race : ℕ) →
    acts (journal ++ entry ∷ []) race
    ≡ acts journal race ++ cons_option (act_in race (effect entry.command)) []
acts_more journal entry race =
    ap (filter_map (act_in race)) (map-append done_by journal (entry ∷ []))
    ∙ filter_map-append (act_in race) (map done_by journal) (effect entry.command ∷ [])

pub acts_append : (journal later : Journal) (race : ℕ) →
    acts (journal ++ later) race ≡ acts journal race ++ acts later race
acts_append journal later race =
    ap (filter_map (act_in race)) (map-append done_by journal later)
    ∙ filter_map-append (act_in race) (map done_by journal) (map done_by later)

pub one_act : (journal : Journal) (entry : EntryParts) (race : ℕ) (act : Act) →
    effect entry.command ≡ InRace race act →
    acts (journal ++ entry ∷ []) race ≡ acts journal race ++ act ∷ []
one_act journal entry race act is =
    acts_more journal entry race ∙ rw (is, eq-eqb race race refl) refl

pub same_acts : (journal : Journal) (entry : EntryParts) (race : ℕ) →
    act_in race (effect entry.command) ≡ None → acts (journal ++ entry ∷ []) race ≡ acts journal race
same_acts journal entry race h = acts_more journal entry race ∙ rw h (append-nil _)

-- an entry of one race does nothing in another
pub other_acts : (journal : Journal) (entry : EntryParts) (race other : ℕ) (act : Act) →
    effect entry.command ≡ InRace race act → other ≢ race →
    acts (journal ++ entry ∷ []) other ≡ acts journal other
other_acts journal entry race other act is apart =
    same_acts journal entry other (ap (act_in other) is ∙ act_elsewhere race other act apart)

pub entered_more : (journal : Journal) (entry : EntryParts) → entered (journal ++ entry ∷ [])
    ≡ entered journal ++ cons_option (sail_entered (effect entry.command)) []
entered_more journal entry =
    ap (filter_map sail_entered) (map-append done_by journal (entry ∷ []))
    ∙ filter_map-append sail_entered (map done_by journal) (effect entry.command ∷ [])

-- an entry of a race enters no boat
pub same_entered : (journal : Journal) (entry : EntryParts) (race : ℕ) (act : Act) →
    effect entry.command ≡ InRace race act → entered (journal ++ entry ∷ []) ≡ entered journal
same_entered journal entry race act is = entered_more journal entry ∙ rw is (append-nil _)

-- what holds of each race holds with one more entry, if it holds with the act of the entry
pub in_each_race : (P : ℕ → List Act → Type 0) (journal : Journal) (entry : EntryParts) (race : ℕ)
    (act : Act) → effect entry.command ≡ InRace race act → ((r : ℕ) → P r (acts journal r)) →
    P race (acts journal race ++ act ∷ []) → (r : ℕ) → P r (acts (journal ++ entry ∷ []) r)
in_each_race P journal entry race act is before here r =
    subst (P r) (sym (acts_more journal entry r ∙ rw is refl)) (by (nat_eq r race) refl)
  where
    by : (b : Bool) → nat_eq r race ≡ b →
        P r (acts journal r ++ cons_option (cond b (Some act) None) [])
    by true e = subst (λ n. P n (acts journal n ++ act ∷ [])) (sym (eqb-true r race e)) here
    by false e = subst (P r) (sym (append-nil (acts journal r))) (before r)

-- and what is told of each race stays, if the act changes nothing of it
pub told_stays : {X : Type 0} (told : List Act → X) (journal : Journal) (entry : EntryParts)
    (race : ℕ) (act : Act) → effect entry.command ≡ InRace race act →
    told (acts journal race ++ act ∷ []) ≡ told (acts journal race) → (r : ℕ) →
    told (acts (journal ++ entry ∷ []) r) ≡ told (acts journal r)
told_stays told journal entry race act is same =
    in_each_race (λ r done. told done ≡ told (acts journal r)) journal entry race act is (λ r. refl) same

-- ---- a decision

module _ (journal : Journal) (entry : EntryParts) (race : ℕ) (boat : Sail) (decision : Decision)
    (is : effect entry.command ≡ InRace race (Decides boat decision)) where
  -- a decision leaves each order as it is
  pub order_stays : (rules : RulesParts) (r : ℕ) →
      order rules (journal ++ entry ∷ []) r ≡ order rules journal r
  order_stays rules =
      told_stays (order_by rules) journal entry race (Decides boat decision) is
      (order_by_push rules (acts journal race) (Decides boat decision))

  -- and what each other boat holds
  pub held_stays : (other : Sail) → same_sail other boat ≡ false → (r : ℕ) →
      held (journal ++ entry ∷ []) r other ≡ held journal r other
  held_stays other apart =
      told_stays (λ done. held_from done other) journal entry race (Decides boat decision) is
      (held_step other (acts journal race) (Decides boat decision) ∙ rw apart refl)

-- ---- the other races

-- a race depends only on the entry list and what is done in it
pub same_race : (rules : RulesParts) (old new : Journal) (race : ℕ) → entered new ≡ entered old →
    acts new race ≡ acts old race → journal_race rules new race ≡ journal_race rules old race
same_race rules old new race boats same i =
    record {
      entered = boats i;
      order = order_by rules (same i);
      held = λ boat. held_from (same i) boat;
    }

says_the_same : (rules : RulesParts) (old new : Journal) (race : ℕ) →
    journal_race rules new race ≡ journal_race rules old race → SaysTheSame rules old new race
says_the_same rules old new race e = record {
  same_order = ap (λ (r : Race Sail). r.order) e;
  same_held = λ boat. ap (λ (r : Race Sail). r.held boat) e;
  same_status = λ boat. ap (λ r. status same_sail r boat) e;
  same_dnf = ap (dnf same_sail rules) e;
  same_plain = λ boat. ap (λ r. plain same_sail rules r boat) e;
}

pub races_are_apart : RacesAreApart
races_are_apart rules journal entry race other act is apart =
    says_the_same rules journal (journal ++ entry ∷ []) other
    (same_race rules journal (journal ++ entry ∷ []) other (same_entered journal entry race act is)
    (other_acts journal entry race other act is apart))

pub enter_keeps_races : EnterKeepsRaces
enter_keeps_races rules journal entry sail is race =
    let same = same_acts journal entry race (ap (λ c. act_in race (effect c)) is) in
    (ap (order_by rules) same, λ boat. ap (λ done. held_from done boat) same)

-- ---- redress of one boat changes no score of another

-- ---- a score before redress doesn't depend on redress

abbrev with_redress : Race Sail → (Sail → Option redress_type.Redress) → Race Sail
with_redress race redress =
    record {
      entered = race.entered;
      order = race.order;
      held = λ boat. record {
        code = (race.held boat).code;
        zfp = (race.held boat).zfp;
        scp = (race.held boat).scp;
        redress = redress boat;
      };
    }

module _ (race : Race Sail) (redress : Sail → Option redress_type.Redress) where
  plain_reads_none : (rules : RulesParts) (boat : Sail) →
      plain same_sail rules (with_redress race redress) boat ≡ plain same_sail rules race boat
  plain_reads_none rules boat = refl

-- ---- the journal after the redress

module _ (rules : RulesParts) (journal : Journal) (entry : EntryParts) (race : ℕ) (boat : Sail)
    (redress : redress_type.Redress) (is : entry.command ≡ Redress race boat redress) where
  does : effect entry.command ≡ InRace race (Decides boat (Redresses redress))
  does = ap effect is

  entered_stays : entered (journal ++ entry ∷ []) ≡ entered journal
  entered_stays = same_entered journal entry race (Decides boat (Redresses redress)) does

  order_is : (r : ℕ) → order rules (journal ++ entry ∷ []) r ≡ order rules journal r
  order_is = order_stays journal entry race boat (Redresses redress) does rules

  scored_stays : scored (journal ++ entry ∷ []) ≡ scored journal
  scored_stays i =
      filter (λ r. told_stays counts_by journal entry race
      (Decides boat (Redresses redress)) does
      (counts_step (acts journal race) (Decides boat (Redresses redress))) r i)
      (range_with_len 1 MAX_RACES)

  -- what a boat holds apart from redress stays
  holds_the_same : {X : Type 0} (part : Held → X) →
      ((h : Held) → part (with_decision h (Redresses redress)) ≡ part h) → (r : ℕ) (other : Sail) →
      part (held (journal ++ entry ∷ []) r other) ≡ part (held journal r other)
  holds_the_same part none r other =
      told_stays (λ done. part (held_from done other)) journal entry race
      (Decides boat (Redresses redress)) does
      (ap part (held_step other (acts journal race) (Decides boat (Redresses redress)))
      ∙ by (same_sail other boat)) r
    where
      by : (b : Bool) →
          part (cond b (with_decision (held journal race other) (Redresses redress))
          (held journal race other)) ≡ part (held journal race other)
      by true = none (held journal race other)
      by false = refl

  -- the race is the same apart from redress
  race_after : (r : ℕ) → journal_race rules (journal ++ entry ∷ []) r
      ≡ with_redress (journal_race rules journal r)
      (λ o. (held (journal ++ entry ∷ []) r o).redress)
  race_after r i =
      record {
        entered = entered_stays i;
        order = order_is r i;
        held = λ o. record {
          code = holds_the_same (λ (h : Held). h.code) (λ h. refl) r o i;
          zfp = holds_the_same (λ (h : Held). h.zfp) (λ h. refl) r o i;
          scp = holds_the_same (λ (h : Held). h.scp) (λ h. refl) r o i;
          redress = (held (journal ++ entry ∷ []) r o).redress;
        };
      }

  plain_stays : (r : ℕ) (other : Sail) →
      plain same_sail rules (journal_race rules (journal ++ entry ∷ []) r) other
      ≡ plain same_sail rules (journal_race rules journal r) other
  plain_stays r other =
      ap (λ m. plain same_sail rules m other) (race_after r)
      ∙ plain_reads_none (journal_race rules journal r)
      (λ o. (held (journal ++ entry ∷ []) r o).redress) rules other

  module _ (other : Sail) (another : same_sail other boat ≡ false) where
    held_is : (r : ℕ) → held (journal ++ entry ∷ []) r other ≡ held journal r other
    held_is = held_stays journal entry race boat (Redresses redress) does other another

    scores_stay : scores rules (journal ++ entry ∷ []) other ≡ scores rules journal other
    scores_stay i =
        map (λ r. score_of (record {
          plain = plain_stays r other i;
          held = held_is r i;
          placed = stands_in same_sail other (order_is r i);
        })) (scored_stays i)

pub redress_leaves_others : RedressLeavesOthers
redress_leaves_others rules journal entry race boat other redress is apart =
    let another : same_sail other boat ≡ false =
    false_from_ne_true _ (λ e. apart ((bytes_decides other boat).0 e)) in
    ap (line_by rules) (scores_stay rules journal entry race boat redress is other another)
