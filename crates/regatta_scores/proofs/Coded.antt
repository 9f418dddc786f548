-- A boat that is given a code leaves the finishing order.
use Rattle.std.proofs.Common.{◌≡◌, ℕ, ◌+◌, ◌≤◌, Bool, true, false, cond, List, [], ◌∷◌, ◌++◌, refl}
use Rattle.std.proofs.Common.{ap, ◌∙◌, arith, count_by, sum_by, Option, Some, None, is_none, find}
use Rattle.std.proofs.Common.{unwrap_or}
use Rattle.std.specs.List.{before_first, position_or_len}
use Rattle.std.proofs.lemmas.List.Sums.{sum_by-take-le}
use Rattle.std.specs.Cmp.Lexicographic.{bytes_decides}
use Rattle.regatta_terms.specs.Effects.{Marks, Decides, InRace, effect}
use Rattle.regatta_terms.specs.Entries.{EntryParts}
use Rattle.regatta_terms.specs.Rules.{RulesParts}
use Rattle.regatta_terms.specs.declared.sail.Sail.{Sail}
use Rattle.regatta_terms.specs.declared.command.Code.{Code}
use Rattle.regatta_terms.specs.declared.command.Command.TheVariants.{Mark}
use Rattle.regatta_scores.specs.declared.sheet.Held.{Held}
use Rattle.regatta_scores.specs.Order.{in_group, stands_in}
use Rattle.regatta_scores.specs.Journal.{Journal, same_sail, acts, order, held}
use Rattle.regatta_scores.specs.RacePoints.{Finished, Coded, journal_race, status}
use Rattle.regatta_scores.specs.RacePoints.{status_by, finishers}
use Rattle.regatta_scores.specs.RaceLaws.{CodedBoatsLeaveTheOrder}
use Rattle.regatta_scores.proofs.Apart.{one_act, order_stays, held_stays}
use Rattle.regatta_scores.proofs.OneMore.{held_from, held_step}
use Rattle.regatta_scores.proofs.Counts.{count_split, sum_split, count_one, sum_one, found_le}

-- ---- the race after the Mark

module _ (rules : RulesParts) (journal : Journal) (entry : EntryParts) (race : ℕ) (coded : Sail)
    (code : Code) (is_mark : entry.command ≡ Mark race coded code) where
  does : effect entry.command ≡ InRace race (Decides coded (Marks code))
  does = ap effect is_mark

  order_is : order rules (journal ++ entry ∷ []) race ≡ order rules journal race
  order_is = order_stays journal entry race coded (Marks code) does rules race

  held_is : (boat : Sail) → same_sail boat coded ≡ false →
      held (journal ++ entry ∷ []) race boat ≡ held journal race boat
  held_is boat apart = held_stays journal entry race coded (Marks code) does boat apart race

  code_given : (boat : Sail) → same_sail boat coded ≡ true →
      (held (journal ++ entry ∷ []) race boat).code ≡ Some code
  code_given boat e =
      ap (λ (h : Held). h.code)
      (ap (λ done. held_from done boat)
      (one_act journal entry race (Decides coded (Marks code)) does)
      ∙ held_step boat (acts journal race) (Decides coded (Marks code))) ∙ rw e refl

  status_after : (boat : Sail) (b : Bool) → same_sail boat coded ≡ b →
      status same_sail (journal_race rules (journal ++ entry ∷ []) race) boat
      ≡ cond b (Coded code) (status same_sail (journal_race rules journal race) boat)
  status_after boat true e =
      ap (λ o. status_by o (stands_in same_sail boat (order rules (journal ++ entry ∷ []) race)))
      (code_given boat e)
  status_after boat false e =
      λ i. status_by (held_is boat e i).code (stands_in same_sail boat (order_is i))

finished_codeless : (o : Option Code) (placed : Bool) → status_by o placed ≡ Finished → o ≡ None
finished_codeless None placed e = refl
finished_codeless (Some code) placed e = cc

-- ---- the law

module _ (rules : RulesParts) (journal : Journal) (entry : EntryParts) (race : ℕ) (coded : Sail)
    (code : Code) (is_mark : entry.command ≡ Mark race coded code)
    (was_finished : status same_sail (journal_race rules journal race) coded ≡ Finished) where
  each_boat : (boat : Sail) (b : Bool) → same_sail boat coded ≡ b →
      ◌≡◌ {A = ℕ} (cond (is_none (held journal race boat).code) 1 0)
      (cond (is_none (held (journal ++ entry ∷ []) race boat).code) 1 0 + cond b 1 0)
  each_boat boat true e =
      let one : boat ≡ coded = (bytes_decides boat coded).0 e in
      let before : (held journal race boat).code ≡ None =
      ap (λ s. (held journal race s).code) one ∙ finished_codeless _ _ was_finished in
      rw (before, code_given rules journal entry race coded code is_mark boat e) (omega arith)
  each_boat boat false e =
      let same : (held (journal ++ entry ∷ []) race boat).code ≡ (held journal race boat).code =
      ap (λ (h : Held). h.code) (held_is rules journal entry race coded code is_mark boat e) in
      rw same (omega arith)

  group_split : (group : List Sail) → finishers (journal_race rules journal race) group
      ≡ finishers (journal_race rules (journal ++ entry ∷ []) race) group
      + count_by (λ other. same_sail other coded) group
  group_split group =
      count_split (λ boat. is_none (held journal race boat).code)
      (λ boat. is_none (held (journal ++ entry ∷ []) race boat).code)
      (λ other. same_sail other coded) (λ boat. each_boat boat (same_sail boat coded) refl) group

pub coded_boats_leave : CodedBoatsLeaveTheOrder
coded_boats_leave rules journal entry race coded code is_mark once was_finished boat =
    let old = journal_race rules journal race in
    let new = journal_race rules (journal ++ entry ∷ []) race in
    let p : Sail → Bool = λ other. same_sail other coded in
    let stays = order_is rules journal entry race coded code is_mark in
    let ahead = before_first (in_group same_sail boat) old.order in
    let hers = unwrap_or (find (in_group same_sail boat) old.order) [] in
    let same_ahead : before_first (in_group same_sail boat) new.order ≡ ahead =
    ap (before_first (in_group same_sail boat)) stays in
    let same_hers : unwrap_or (find (in_group same_sail boat) new.order) [] ≡ hers =
    ap (λ gs. unwrap_or (find (in_group same_sail boat) gs) []) stays in
    let split =
    sum_split (finishers old) (finishers new) (count_by p)
    (group_split rules journal entry race coded code is_mark was_finished) ahead in
    let few_ahead : sum_by (count_by p) ahead ≤ 1 =
    omega (
      arith,
      sum_by-take-le (count_by p) (order rules journal race)
          (position_or_len (in_group same_sail boat) (order rules journal race)),
      once coded,
    ) in
    let few_hers : count_by p hers ≤ 1 =
    omega (arith, found_le p (in_group same_sail boat) (order rules journal race), once coded) in
    let one_ahead = sum_one p ahead few_ahead in
    let one_hers = count_one p hers few_hers in
    let new_ahead = ap (sum_by (finishers new)) same_ahead in
    let new_hers = ap (finishers new) same_hers in
    let split_hers = group_split rules journal entry race coded code is_mark was_finished hers in (
      status_after rules journal entry race coded code is_mark boat (same_sail boat coded) refl,
      omega (arith, split, one_ahead, new_ahead),
      omega (arith, split_hers, one_hers, new_hers),
    )
