-- The sentences of Appendix A on a race leave no choice.
use Rattle.std.proofs.Common.{◌≡◌, ◌≢◌, ℕ, zero, ◌+◌, ◌*◌, ◌<◌, ◌≤◌, min, Bool, true, false, cond}
use Rattle.std.proofs.Common.{◌||◌, List, [], ◌∷◌, ◌++◌, flat_map, refl, ap, ◌∙◌, sym, arith, length, filter, nat_lt}
use Rattle.std.proofs.Common.{count_by, Contains, Option, Some, None, is_none, unwrap_or}
use native.Mathlib.Nat.{eq_of_mul-eq-mul_left}
use Rattle.std.specs.Cmp.Lexicographic.{bytes_decides}
use borrow.Author.Tests.{ltb-true, ltb-false}
use Rattle.regatta_terms.specs.Rules.{RulesParts}
use Rattle.regatta_terms.specs.declared.rules.Absent.{Absent}
use Rattle.regatta_terms.specs.declared.rules.Absent.TheVariants.{A52, A53}
use Rattle.regatta_terms.specs.declared.sail.Sail.{Sail}
use Rattle.regatta_terms.specs.declared.command.Code.{Code}
use Rattle.regatta_terms.specs.declared.command.Code.TheVariants as code
use Rattle.regatta_scores.specs.Journal.{Journal, same_sail, entered, acts, lasting_times}
use Rattle.regatta_scores.specs.Journal.{held}
use Rattle.regatta_scores.specs.Order.{in_group, stands_in}
use Rattle.regatta_scores.specs.RacePoints.{Status, Finished, Coded, status_by, came}
use Rattle.regatta_scores.specs.RaceLaws.{points_of_places}
use Rattle.regatta_scores.specs.AppendixA.{Working, IsRaceScored, scored_as, placed}
use Rattle.regatta_scores.proofs.ByTimes.{same_by_times}
use Rattle.regatta_scores.proofs.Members.{all_at}
use Rattle.regatta_scores.proofs.SameLists.{contains_later}

-- ---- shared places

pub kept_in : (finished : Sail → Bool) (group : List Sail) (boat : Sail) →
    in_group same_sail boat group ≡ true → finished boat ≡ true →
    Contains (filter finished group) boat
kept_in finished [] boat here fin = cc
kept_in finished (x ∷ xs) boat here fin = by (same_sail x boat) refl here (kept_in finished xs boat)
  where
    later : (b : Bool) → Contains (filter finished xs) boat →
        Contains (cond b (x ∷ filter finished xs) (filter finished xs)) boat
    later true has = contains_later x (filter finished xs) boat has
    later false has = has

    by : (b : Bool) → same_sail x boat ≡ b → (b || in_group same_sail boat xs) ≡ true →
        (in_group same_sail boat xs ≡ true → finished boat ≡ true →
        Contains (filter finished xs) boat) → Contains (filter finished (x ∷ xs)) boat
    by true e here rest =
        let same : x ≡ boat = (bytes_decides x boat).0 e in
        let passes : finished x ≡ true = ap finished same ∙ fin in
        rw passes (zero, omega arith, same)
    by false e here rest = later (finished x) (rest here fin)

-- the group of a boat, and those ahead of it and behind it
split_of : (boat : Sail) (order : List (List Sail)) → stands_in same_sail boat order ≡ true →
    (ahead : List (List Sail)) × (group : List Sail) × (behind : List (List Sail))
    × (order ≡ ahead ++ group ∷ behind) × (in_group same_sail boat group ≡ true)
split_of boat [] here = cc
split_of boat (group ∷ groups) here =
    by (in_group same_sail boat group) refl here (split_of boat groups)
  where
    by : (b : Bool) → in_group same_sail boat group ≡ b →
        (b || stands_in same_sail boat groups) ≡ true →
        (stands_in same_sail boat groups ≡ true →
        (ahead : List (List Sail)) × (hers : List Sail) × (behind : List (List Sail))
        × (groups ≡ ahead ++ hers ∷ behind) × (in_group same_sail boat hers ≡ true)) →
        (ahead : List (List Sail)) × (hers : List Sail) × (behind : List (List Sail))
        × (group ∷ groups ≡ ahead ++ hers ∷ behind) × (in_group same_sail boat hers ≡ true)
    by true e here rest = ([], group, groups, refl, e)
    by false e here rest =
        let found = rest here in
        (group ∷ found.0, found.1, found.2, ap (λ o. group ∷ o) found.3, found.4)

shared_by : (k s t : ℕ) (p : ℕ) → 0 < k → k * s ≡ p → k * t ≡ p → s ≡ t
shared_by k s t p some e f = eq_of_mul-eq-mul_left k some s t (e ∙ sym f)

-- ---- a race

pub finished_is : (o : Option Code) (placed : Bool) → status_by o placed ≡ Finished →
    (placed ≡ true) × (is_none o ≡ true)
finished_is (Some c) placed e = cc
finished_is None true e = (refl, refl)
finished_is None false e = cc

module _ (rules : RulesParts) (journal : Journal) (race : ℕ) (w v : Working)
    (a : IsRaceScored rules journal w race) (b : IsRaceScored rules journal v race) where
  pub same_order : w.order race ≡ v.order race
  same_order = by rules.handicap refl
    where
      by : (t : Bool) → rules.handicap ≡ t → w.order race ≡ v.order race
      by true e =
          same_by_times (lasting_times (acts journal race)) (w.order race) (v.order race)
          (a.a3_time e) (b.a3_time e)
      by false e = a.a3_finish e ∙ sym (b.a3_finish e)

  same_status : (boat : Sail) →
      scored_as rules journal w race boat ≡ scored_as rules journal v race boat
  same_status boat =
      ap (λ o. status_by (held journal race boat).code (stands_in same_sail boat o)) same_order

  same_dnf : w.dnf race ≡ v.dnf race
  same_dnf = by rules.absent refl
    where
      by : (x : Absent) → rules.absent ≡ x → w.dnf race ≡ v.dnf race
      by A52 e = a.a5_2 e ∙ sym (b.a5_2 e)
      by A53 e =
          a.a5_3 e
          ∙ ap (λ o. count_by (λ boat. came (status_by (held journal race boat).code
          (stands_in same_sail boat o))) (entered journal) + 1) same_order
          ∙ sym (b.a5_3 e)

  same_percent : w.twenty_percent race ≡ v.twenty_percent race
  same_percent =
      omega (
        arith,
        a.nearest.not_above,
        a.nearest.not_below,
        b.nearest.not_above,
        b.nearest.not_below,
        same_dnf,
      )

  same_base : (boat : Sail) → w.base race boat ≡ v.base race boat
  same_base boat = by (scored_as rules journal w race boat) refl
    where
      coded : (c : Code) → scored_as rules journal w race boat ≡ Coded c → c ≢ code.Dnc →
          w.base race boat ≡ v.base race boat
      coded c e other =
          a.coded boat c e other ∙ ap (λ d. 10 * d) same_dnf ∙ sym (b.coded boat c (sym (same_status boat) ∙ e) other)

      by : (s : Status) → scored_as rules journal w race boat ≡ s →
          w.base race boat ≡ v.base race boat
      by Finished e =
          let is = finished_is (held journal race boat).code
          (stands_in same_sail boat (w.order race)) e in
          let at = split_of boat (w.order race) is.0 in
          let tied = placed rules journal race at.1 in
          let has = kept_in (λ other. is_none (held journal race other).code) at.1 boat at.4 is.1 in
          let share = points_of_places (1 + length (flat_map (placed rules journal race) at.0))
          (length tied) in
          shared_by (length tied) (w.base race boat) (v.base race boat) share (omega (arith, has.1))
          (all_at (λ b. length tied * w.base race b ≡ share) tied boat
          (a.a4_a7 at.0 at.2 at.1 at.3) has)
          (all_at (λ b. length tied * v.base race b ≡ share) tied boat
          (b.a4_a7 at.0 at.2 at.1 (sym same_order ∙ at.3)) has)
      by (Coded code.Dnc) e = a.dnc boat e ∙ sym (b.dnc boat (sym (same_status boat) ∙ e))
      by (Coded c) e = coded c e (λ h. cc)

  pub same_plain : (boat : Sail) → w.plain race boat ≡ v.plain race boat
  same_plain boat = by (nat_lt (w.base race boat) (10 * w.dnf race)) refl
    where
      by : (t : Bool) → nat_lt (w.base race boat) (10 * w.dnf race) ≡ t →
          w.plain race boat ≡ v.plain race boat
      by true e =
          let below = ltb-true (w.base race boat) (10 * w.dnf race) e in
          let hers = held journal race boat in
          let too : v.base race boat < 10 * v.dnf race =
          omega (arith, below, same_base boat, same_dnf) in
          a.penalties boat below
          ∙ (λ i. min (same_base boat i + 10 * (hers.zfp * same_percent i
          + hers.scp * unwrap_or rules.scp (same_percent i))) (10 * same_dnf i))
          ∙ sym (b.penalties boat too)
      by false e =
          let above = ltb-false (w.base race boat) (10 * w.dnf race) e in
          let too : 10 * v.dnf race ≤ v.base race boat =
          omega (arith, above, same_base boat, same_dnf) in
          a.no_better boat above ∙ same_base boat ∙ sym (b.no_better boat too)
