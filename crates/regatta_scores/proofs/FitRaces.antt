-- The scores of a race fit the sentences of Appendix A.
use Rattle.std.proofs.Common.{◌≡◌, ◌≢◌, ℕ, ◌+◌, ◌*◌, ◌/◌, ◌<◌, ◌≤◌, min, max, Bool, true, false}
use Rattle.std.proofs.Common.{List, [], ◌∷◌, ◌++◌, refl, ap, ◌∙◌, sym, subst, arith, length, filter}
use Rattle.std.proofs.Common.{All, flat_map, sum_by, count_by, Option, Some, None, is_none}
use Rattle.std.proofs.Common.{cond, fold}
use Rattle.std.specs.List.{AllByRecursion}
use Rattle.std.proofs.Math.Nat.{mul-div-le, lt-mul-div-succ}
use Rattle.std.proofs.lemmas.List.Elements.{All-from_recursion}
use Rattle.std.proofs.lemmas.List.Concat.{length-flat_map}
use Rattle.std.proofs.lemmas.List.Sums.{length-filter}
use Rattle.regatta_terms.specs.Rules.{RulesParts}
use Rattle.regatta_terms.specs.declared.sail.Sail.{Sail}
use Rattle.regatta_terms.specs.declared.command.Code.{Code}
use Rattle.regatta_terms.specs.declared.command.Code.TheVariants as code
use Rattle.regatta_scores.specs.Journal.{Journal, same_sail, entered, acts, order_after}
use Rattle.regatta_scores.specs.Journal.{lasting_times, order, held}
use Rattle.regatta_scores.specs.CorrectedTimes.{order_of_times}
use Rattle.regatta_scores.specs.Order.{in_group, stands_in}
use Rattle.regatta_scores.specs.RacePoints.{Coded, Race, status_by, came, base_by}
use Rattle.regatta_scores.specs.RacePoints.{dnf_by, finishers, place_points, status, dnf, plain}
use Rattle.regatta_scores.specs.RacePoints.{penalty_points, journal_race}
use Rattle.regatta_scores.specs.RaceLaws.{NobodyTwice, points_of_places}
use Rattle.regatta_scores.specs.AppendixA.{Working, IsByTimes, IsRaceScored}
use Rattle.regatta_scores.proofs.ByTimes.{is_by_times}
use Rattle.regatta_scores.proofs.Members.{all_passed, those_passed}
use Rattle.regatta_scores.proofs.SharedOut.{shared_points, place_points_at, tied_points, members}

-- ---- shared places

all_both : {X : Type 0} (P Q R : X → Type 0) → ((x : X) → P x → Q x → R x) → (xs : List X) →
    AllByRecursion P xs → AllByRecursion Q xs → AllByRecursion R xs
all_both P Q R f [] p q = tt
all_both P Q R f (x ∷ xs) p q = (f x p.0 q.0, all_both P Q R f xs p.1 q.1)

finished_base : (o : Option Code) (placed : Bool) (points entered dnf : ℕ) → is_none o ≡ true →
    placed ≡ true → base_by (status_by o placed) points entered dnf ≡ points
finished_base (Some c) placed points entered dnf e f = cc
finished_base None true points entered dnf e f = refl
finished_base None false points entered dnf e f = cc

module _ (rules : RulesParts) (race : Race Sail) (once : NobodyTwice race) where
  abbrev base : Sail → ℕ
  base boat =
      base_by (status same_sail race boat) (place_points same_sail race boat)
      (length race.entered) (dnf same_sail rules race)

  abbrev fin : Sail → Bool
  fin boat = is_none (race.held boat).code

  shares : (ahead behind : List (List Sail)) (group : List Sail) →
      race.order ≡ ahead ++ group ∷ behind →
      let tied = filter fin group in
      All (λ boat. length tied * base boat
      ≡ points_of_places (1 + length (flat_map (filter fin) ahead)) (length tied)) tied
  shares ahead behind group split =
      let place = 1 + sum_by (finishers race) ahead in
      let tied = filter fin group in
      let many : length tied ≡ finishers race group = length-filter fin group in
      let each = all_both (λ boat. in_group same_sail boat group ≡ true) (λ boat. fin boat ≡ true)
      (λ boat. length tied * base boat ≡ points_of_places place (length tied))
      (λ boat here finished.
      (let at = place_points_at same_sail race ahead group behind boat split (once boat) here in
      let points : base boat ≡ shared_points place (finishers race group) =
      finished_base (race.held boat).code (stands_in same_sail boat race.order)
      (place_points same_sail race boat) (length race.entered) (dnf same_sail rules race)
      finished at.1 ∙ at.0 in
      (λ i. many i * points i) ∙ tied_points place (finishers race group)
      ∙ ap (points_of_places place) (sym many))) tied
      (all_passed (λ boat. in_group same_sail boat group ≡ true) fin group (members group))
      (those_passed (λ boat. fin boat ≡ true) fin (λ boat e. e) group) in
      let counted : sum_by (finishers race) ahead ≡ length (flat_map (filter fin) ahead) =
      (λ i. sum_by (λ g. sym (length-filter fin g) i) ahead)
      ∙ sym (length-flat_map (filter fin) ahead) in
      subst (λ n. All (λ boat. length tied * base boat ≡ points_of_places (1 + n) (length tied)) tied)
      counted
      (All-from_recursion (λ boat. length tied * base boat ≡ points_of_places place (length tied))
      tied each)

-- ---- codes and penalties

coded_base : (c : Code) (points entered dnf : ℕ) → c ≢ code.Dnc →
    base_by (Coded c) points entered dnf ≡ 10 * dnf
coded_base code.Dnc points entered dnf other = absurd (other refl)
coded_base _ points entered dnf other = refl

pub capped : (b x c : ℕ) → b < c → max b (min (b + x) c) ≡ min (b + x) c
capped b x c below = omega arith

pub uncapped : (b x c : ℕ) → c ≤ b → max b (min (b + x) c) ≡ b
uncapped b x c above = omega arith

-- ---- all races

module _ (rules : RulesParts) (journal : Journal) where
  -- the DNF score of the race, in whole points
  abbrev dnf_in : ℕ → ℕ
  dnf_in race = dnf same_sail rules (journal_race rules journal race)

  abbrev pub work : Working
  work = record {
    order = order rules journal;
    dnf = λ race. dnf same_sail rules (journal_race rules journal race);
    twenty_percent = λ race. (2 * dnf same_sail rules (journal_race rules journal race) + 5) / 10;
    base = λ race boat. base_by (status same_sail (journal_race rules journal race) boat)
        (place_points same_sail (journal_race rules journal race) boat) (length (entered journal))
        (dnf same_sail rules (journal_race rules journal race));
    plain = λ race boat. plain same_sail rules (journal_race rules journal race) boat;
  }

  pub races_fit : ((race : ℕ) → NobodyTwice (journal_race rules journal race)) → (race : ℕ) →
      IsRaceScored rules journal work race
  races_fit once race =
      let this = journal_race rules journal race in
      let many = length (entered journal) in
      let here = count_by (λ (boat : Sail). came (status same_sail this boat)) (entered journal) in
      let score = dnf same_sail rules this in
      let base : Sail → ℕ = λ boat. base_by (status same_sail this boat) (place_points same_sail this boat)
      many score in
      let done = acts journal race in
      let timed = λ (t : Bool). cond t (order_of_times (lasting_times done))
      (fold order_after [] done) in
      record {
        a3_finish = λ e. ap timed e;
        a3_time = λ e. subst (IsByTimes (lasting_times done)) (sym (ap timed e))
            (is_by_times (lasting_times done));
        a5_2 = λ e. ap (λ x. dnf_by x many here) e;
        a5_3 = λ e. ap (λ x. dnf_by x many here) e;
        a4_a7 = shares rules this (once race);
        dnc = λ boat e. ap (λ s. base_by s (place_points same_sail this boat) many score) e;
        coded = λ boat c e other.
            ap (λ s. base_by s (place_points same_sail this boat) many score) e
            ∙ coded_base c (place_points same_sail this boat) many score other;
        nearest =
            (let least = mul-div-le (2 * score + 5) 10 in
            let most : 2 * score + 5 < 10 * ((2 * score + 5) / 10 + 1) =
            lt-mul-div-succ (2 * score + 5) (omega arith) in
            record { not_above = omega (arith, least); not_below = omega (arith, most) });
        penalties = λ boat below.
            capped (base boat) (10 * penalty_points rules score (held journal race boat))
            (10 * score) below;
        no_better = λ boat above.
            uncapped (base boat) (10 * penalty_points rules score (held journal race boat))
            (10 * score) above;
      }
