-- Tables of one boat that fit the sentences of Appendix A that are asked for.
use Rattle.std.proofs.Common.{◌≡◌, ◌≢◌, ◌↔◌, ◌⊎◌, ℕ, zero, suc, ◌+◌, ◌*◌, ◌<◌, ◌≤◌, min, Bool, true, false, cond}
use Rattle.std.proofs.Common.{◌||◌, List, [], ◌∷◌, ◌++◌, refl, ap, ◌∙◌, sym, subst, arith, length, All, Contains}
use Rattle.std.proofs.Common.{IsPermutation, fold, get_or, count_by, sum, Some, None, Option, nat_eq, nat_lt, is_none, unwrap_or, reverse, filter, flat_map, zip}
use mathlib.Core.Logic.{inl, inr}
use Rattle.std.specs.List.{list_all}
use Rattle.std.specs.Cmp.{first_so, second_so}
use Rattle.std.proofs.lemmas.List.Elements.{All-from_recursion}
use Rattle.std.proofs.lemmas.List.Sorted.{IsPermutation-trans, IsPermutation-sym}
use borrow.Author.Tests.{eqb-true, le-ltb}
use Rattle.regatta_terms.specs.Effects.{Act, Effect, Enters, InRace, effect}
use Rattle.regatta_terms.specs.Rules.{RulesParts, exclusions_of}
use Rattle.regatta_terms.specs.declared.sail.Sail.{Sail}
use Rattle.regatta_terms.specs.declared.rules.Absent.TheVariants.{A52, A53}
use Rattle.regatta_terms.specs.declared.command.Code.{Code}
use Rattle.regatta_terms.specs.declared.command.Code.TheVariants as code
use Rattle.regatta_scores.specs.declared.table.Cell.{Cell}
use Rattle.regatta_scores.specs.declared.table.Row.{Row}
use Rattle.regatta_scores.specs.Journal.{Journal, same_sail, entered, scored, acts, act_in, held, order_after, lasting_times}
use Rattle.regatta_scores.specs.Marks.{mark_by}
use Rattle.regatta_scores.specs.Order.{stands_in}
use Rattle.regatta_scores.specs.RacePoints.{Status, Finished, Coded, status_by, came}
use Rattle.regatta_scores.specs.RankLaws.{IsLowerAtFirst, cell_points, counting_points}
use Rattle.regatta_scores.specs.AppendixA.{Working, IsByTimes, IsNearest, Wins}
use Rattle.regatta_scores.specs.AppendixA.{scored_as, redress, is_excludable}
use Rattle.regatta_scores.specs.RaceLaws.{points_of_places}
use Rattle.regatta_scores.specs.declared.sheet.Held.{Held}
use Rattle.regatta_scores.specs.Needed.{Sentences, Asked, IsRaceScoredBy, IsCellBy, IsRowBy, FitsBy}
use Rattle.regatta_scores.proofs.FitTables.{sorted_one}
use Rattle.regatta_scores.proofs.Members.{upto_one}

-- ---- sentences that are asked for or not

pub given : {X : Type 0} (b : Bool) → X → Asked b X
given true x = x
given false x = tt

pub so : {X Y : Type 0} (b : Bool) → (X → Y) → Asked b X → Asked b Y
so true f x = f x
so false f x = tt

-- ---- journals of races 1 and 2

-- whether an effect is of no other race
abbrev of_two : Effect → Bool
of_two (Enters sail) = true
of_two (InRace race act) = nat_eq race 1 || nat_eq race 2

abbrev pub are_two : Journal → Bool
are_two journal = list_all (λ entry. of_two (effect entry.command)) journal

none_in : (race : ℕ) (e : Effect) → of_two e ≡ true → nat_eq race 1 ≡ false →
    nat_eq race 2 ≡ false → act_in race e ≡ None
none_in race (Enters sail) two not_one not_two = refl
none_in race (InRace r act) two not_one not_two = by (nat_eq race r) refl
  where
    by : (b : Bool) → nat_eq race r ≡ b → ◌≡◌ {A = Option Act} (cond b (Some act) None) None
    by true e =
        let out : (nat_eq r 1 || nat_eq r 2) ≡ false =
        ap (λ n. nat_eq n 1 || nat_eq n 2) (sym (eqb-true race r e))
        ∙ (λ i. not_one i || not_two i) in
        let clash : true ≡ false = sym two ∙ out in cc
    by false e = refl

none_done : (race : ℕ) (journal : Journal) → are_two journal ≡ true → nat_eq race 1 ≡ false →
    nat_eq race 2 ≡ false → acts journal race ≡ []
none_done race [] two not_one not_two = refl
none_done race (entry ∷ journal) two not_one not_two =
    let here = first_so (of_two (effect entry.command)) (are_two journal) two in
    let rest = second_so (of_two (effect entry.command)) (are_two journal) two in
    rw (none_in race (effect entry.command) here not_one not_two)
    (none_done race journal rest not_one not_two)

-- what is told of each race by what is done in it
pub in_each : (journal : Journal) → are_two journal ≡ true → (P : List Act → Type 0) →
    P (acts journal 1) → P (acts journal 2) → P [] → (race : ℕ) → P (acts journal race)
in_each journal two P first second none race = by (nat_eq race 1) refl (nat_eq race 2) refl
  where
    by : (b : Bool) → nat_eq race 1 ≡ b → (c : Bool) → nat_eq race 2 ≡ c → P (acts journal race)
    by true e c f = subst (λ r. P (acts journal r)) (sym (eqb-true race 1 e)) first
    by false e true f = subst (λ r. P (acts journal r)) (sym (eqb-true race 2 f)) second
    by false e false f = subst P (sym (none_done race journal two e f)) none

-- ---- members of short lists

pub only : {X : Type 0} (x y : X) → Contains (x ∷ []) y → y ≡ x
only {X} x y has = by has.0 has.1 has.2
  where
    by : (k : ℕ) → k < length (x ∷ []) → get_or (x ∷ []) k y ≡ y → y ≡ x
    by zero within at = sym at
    by (suc k) within at = absurd (omega (arith, within))

pub either : {X : Type 0} (x z y : X) → Contains (x ∷ z ∷ []) y → (y ≡ x) ⊎ (y ≡ z)
either {X} x z y has = by has.0 has.1 has.2
  where
    by : (k : ℕ) → k < length (x ∷ z ∷ []) → get_or (x ∷ z ∷ []) k y ≡ y → (y ≡ x) ⊎ (y ≡ z)
    by zero within at = inl (sym at)
    by (suc zero) within at = inr (sym at)
    by (suc (suc k)) within at = absurd (omega (arith, within))

-- ---- nobody wins over herself

lower_never : (xs : List ℕ) → IsLowerAtFirst xs xs → ⊥
lower_never xs l = absurd (omega (arith, l.lower))

pub wins_never : (a : Row) → Wins a a → ⊥
wins_never a (inl lower) = absurd (omega (arith, lower))
wins_never a (inr (inl case)) =
    let w = case.1 in
    let one : w.list ≡ w.other_list =
    sorted_one w.list w.other_list w.is_list.rising w.is_other.rising
    (IsPermutation-trans w.list (counting_points a.cells) w.other_list
    (IsPermutation-sym (counting_points a.cells) w.list w.is_list.same) w.is_other.same) in
    lower_never w.other_list (subst (λ xs. IsLowerAtFirst xs w.other_list) one w.better)
wins_never a (inr (inr case)) = lower_never (reverse (cell_points a.cells)) case.2

-- ---- places

-- the boats of a group that finished share the points of their places, behind those ahead
abbrev pub AtPlace : (Sail → Held) → (Sail → ℕ) → List (List Sail) → List Sail → Type 0
AtPlace holds score ahead group =
    let placed = λ (g : List Sail). filter (λ boat. is_none (holds boat).code) g in
    let place = 1 + length (flat_map placed ahead) in
    let tied = placed group in
    All (λ boat. length tied * score boat ≡ points_of_places place (length tied)) tied

long : (ahead behind : List (List Sail)) (group : List Sail) →
    1 ≤ length (ahead ++ group ∷ behind)
long [] behind group = omega arith
long (g ∷ ahead) behind group = omega arith

-- an order of one group, or of none
pub one_group : (P : List (List Sail) → List Sail → Type 0) (g : List Sail) → P [] g →
    (ahead behind : List (List Sail)) (group : List Sail) → g ∷ [] ≡ ahead ++ group ∷ behind →
    P ahead group
one_group P g here [] behind group split =
    subst (P []) (ap (λ gs. get_or gs 0 g) split) here
one_group P g here (h ∷ ahead) behind group split =
    let many = ap length split in absurd (omega (arith, many, long ahead behind group))

pub no_group : (P : List (List Sail) → List Sail → Type 0) (ahead behind : List (List Sail))
    (group : List Sail) → [] ≡ ahead ++ group ∷ behind → P ahead group
no_group P ahead behind group split =
    let many = ap length split in absurd (omega (arith, many, long ahead behind group))

-- ---- a race by constants

-- a score by how a boat is scored
abbrev pub by_status : ℕ → ℕ → ℕ → Status → ℕ
by_status finished absent coded Finished = finished
by_status finished absent coded (Coded code.Dnc) = absent
by_status finished absent coded (Coded c) = coded

coded_is : (finished absent coded : ℕ) (c : Code) → c ≢ code.Dnc →
    by_status finished absent coded (Coded c) ≡ coded
coded_is finished absent coded code.Dnc other = absurd (other refl)
coded_is finished absent coded _ other = refl

module _ (rules : RulesParts) (journal : Journal) (orders : ℕ → List (List Sail))
    (dnf twenty_percent finished absent coded : ℕ) (worse : ℕ → ℕ → ℕ) where
  -- a working in which each score is one of three, and penalties make it worse by a function
  abbrev pub made : Working
  made = record {
    order = orders;
    dnf = λ race. dnf;
    twenty_percent = λ race. twenty_percent;
    base = λ race boat. by_status finished absent coded
        (status_by (held journal race boat).code (stands_in same_sail boat (orders race)));
    plain = λ race boat. worse (by_status finished absent coded
        (status_by (held journal race boat).code (stands_in same_sail boat (orders race))))
        (10 * ((held journal race boat).zfp * twenty_percent
        + (held journal race boat).scp * unwrap_or rules.scp twenty_percent));
  }

  module _ (asked : Sentences)
      (a3_finish : Asked asked.a3_finish ((race : ℕ) → rules.handicap ≡ false →
      orders race ≡ fold order_after [] (acts journal race)))
      (a3_time : Asked asked.a3_time ((race : ℕ) → rules.handicap ≡ true →
      IsByTimes (lasting_times (acts journal race)) (orders race)))
      (a5_2 : Asked asked.a5_2 (rules.absent ≡ A52 → dnf ≡ length (entered journal) + 1))
      (a5_3 : Asked asked.a5_3 ((race : ℕ) → rules.absent ≡ A53 →
      dnf ≡ count_by (λ boat. came (scored_as rules journal made race boat)) (entered journal) + 1))
      (a4_a7 : Asked asked.a4_a7 ((race : ℕ) →
      (ahead behind : List (List Sail)) (group : List Sail) →
      orders race ≡ ahead ++ group ∷ behind →
      AtPlace (held journal race) (made.base race) ahead group))
      (dnc : Asked asked.dnc (absent ≡ 10 * (length (entered journal) + 1)))
      (coded_score : Asked asked.coded (coded ≡ 10 * dnf))
      (nearest : Asked asked.nearest (IsNearest (20 * dnf) 100 twenty_percent))
      (penalties : Asked asked.penalties ((b x : ℕ) → b < 10 * dnf →
      worse b x ≡ min (b + x) (10 * dnf)))
      (no_better : Asked asked.no_better ((b x : ℕ) → 10 * dnf ≤ b → worse b x ≡ b)) where
    pub made_fits : (race : ℕ) → IsRaceScoredBy asked rules journal made race
    made_fits race =
        let how = scored_as rules journal made race in
        let score = by_status finished absent coded in
        let hers = held journal race in
        let cost = λ (boat : Sail). 10 * ((hers boat).zfp * twenty_percent
        + (hers boat).scp * unwrap_or rules.scp twenty_percent) in
        record {
          a3_finish = so asked.a3_finish (λ each. each race) a3_finish;
          a3_time = so asked.a3_time (λ each. each race) a3_time;
          a5_2 = a5_2;
          a5_3 = so asked.a5_3 (λ each. each race) a5_3;
          a4_a7 = so asked.a4_a7 (λ each. each race) a4_a7;
          dnc = so asked.dnc (λ is boat e. ap score e ∙ is) dnc;
          coded = so asked.coded
              (λ is boat c e other. ap score e ∙ coded_is finished absent coded c other ∙ is)
              coded_score;
          nearest = nearest;
          penalties = so asked.penalties
              (λ each boat below. each (score (how boat)) (cost boat) below) penalties;
          no_better = so asked.no_better
              (λ each boat above. each (score (how boat)) (cost boat) above) no_better;
        }

-- ---- tables

module _ (asked : Sentences) (rules : RulesParts) (journal : Journal) (w : Working) where
  -- a cell without redress
  pub plain_cell : (r : Row) (race : ℕ) (c : Cell) → redress rules journal r race ≡ None →
      Asked asked.unredressed (c.points ≡ w.plain race r.sail) →
      Asked asked.a10 (let hers = held journal race r.sail in
      c.mark ≡ mark_by hers.redress (scored_as rules journal w race r.sail) hers.zfp hers.scp) →
      Asked asked.dne_counts (is_excludable rules journal r race ≡ false → c.dropped ≡ false) →
      IsCellBy asked rules journal w r race c
  plain_cell r race c none points mark kept = record {
    unredressed = so asked.unredressed (λ is e. is) points;
    a9_a = given asked.a9_a (λ e. (let clash = sym none ∙ e in cc));
    a9_b = given asked.a9_b (λ e. (let clash = sym none ∙ e in cc));
    a9_c = given asked.a9_c (λ points e. (let clash = sym none ∙ e in cc));
    a10 = mark;
    dne_counts = kept;
  }

  -- a row with one cell that counts in race 1
  pub one_cell : (boat : Sail) (rank net : ℕ) (tied : Bool) (c : Cell) → scored journal ≡ 1 ∷ [] →
      let r : Row = record { sail = boat; rank = rank; tied = tied; net = net; cells = c ∷ [] } in
      IsCellBy asked rules journal w r 1 c →
      Asked asked.as_many (count_by (λ cell. cell.dropped) (c ∷ [])
      ≡ min (exclusions_of rules.thresholds (length (scored journal)))
      (count_by (is_excludable rules journal r) (scored journal))) →
      Asked asked.total (net ≡ sum (counting_points (c ∷ []))) →
      IsRowBy asked rules journal w r
  one_cell boat rank net tied c races fits as_many total =
      let r : Row = record { sail = boat; rank = rank; tied = tied; net = net; cells = c ∷ [] } in
      record {
        a2_2 = given asked.a2_2 (sym (ap length races));
        cells = λ race cell at. subst (λ (x : ℕ × Cell). IsCellBy asked rules journal w r x.0 x.1)
            (sym (only (1, c) (race, cell)
            (subst (λ rs. Contains (zip rs (c ∷ [])) (race, cell)) races at))) fits;
        as_many = as_many;
        worst = given asked.worst (λ race other cell kept at_race at_other on off free.
            (let is = only (1, c) (race, cell)
            (subst (λ rs. Contains (zip rs (c ∷ [])) (race, cell)) races at_race) in
            let is_kept = only (1, c) (other, kept)
            (subst (λ rs. Contains (zip rs (c ∷ [])) (other, kept)) races at_other) in
            let clash : true ≡ false = sym on ∙ ap (λ (x : ℕ × Cell). x.1.dropped) is
            ∙ sym (ap (λ (x : ℕ × Cell). x.1.dropped) is_kept) ∙ off in cc));
        total = total;
      }

  -- a table of one row
  pub one_row : (races : List ℕ) (r : Row) → Asked asked.races (races ≡ scored journal) →
      Asked asked.entries (IsPermutation (entered journal) (r.sail ∷ [])) →
      ((race : ℕ) → IsRaceScoredBy asked rules journal w race) → IsRowBy asked rules journal w r →
      Asked asked.rank (r.rank ≡ 1) → Asked asked.tied (r.tied ≡ false) →
      FitsBy asked rules journal (record { races = races; rows = r ∷ [] })
  one_row races r is_races entries scores row_fits rank tied = record {
    races = is_races;
    entries = entries;
    working = w;
    scores = scores;
    rows = All-from_recursion (IsRowBy asked rules journal w) (r ∷ []) (row_fits, tt);
    a8 = given asked.a8 (λ a b has_a has_b. (
      λ lower. absurd (omega (
        arith,
        lower,
        ap (λ (x : Row). x.rank) (only r a has_a),
        ap (λ (x : Row). x.rank) (only r b has_b),
      )),
      λ wins. absurd (wins_never r (subst (λ x. Wins x r) (only r a has_a)
          (subst (Wins a) (only r b has_b) wins))),
    ));
    rank = so asked.rank (λ one. All-from_recursion
        (λ a. a.rank ≡ 1 + count_by (λ b. nat_lt b.rank a.rank) (r ∷ [])) (r ∷ [])
        (omega (arith, one, none_lower r), tt)) rank;
    tied = so asked.tied (λ alone. All-from_recursion
        (λ a. (a.tied ≡ true) ↔ (1 < count_by (λ b. nat_eq b.rank a.rank) (r ∷ []))) (r ∷ []) (
          (
            λ yes. (let clash : false ≡ true = sym alone ∙ yes in cc),
            λ more. absurd (omega (arith, more, upto_one (nat_eq r.rank r.rank))),
          ),
          tt,
        )) tied;
    in_order = given asked.in_order (λ i j d apart within. absurd (omega (arith, apart, within)));
  }
    where
      none_lower : (r : Row) → ◌≡◌ {A = ℕ} (count_by (λ b. nat_lt b.rank r.rank) (r ∷ [])) 0
      none_lower r = ap (λ b. 0 + cond b 1 0) (le-ltb r.rank r.rank (omega arith))
