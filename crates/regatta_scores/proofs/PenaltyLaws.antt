-- What penalties cost, and that they cost others nothing.
use Rattle.std.proofs.Common.{◌≡◌, ℕ, ◌+◌, ◌*◌, ◌/◌, ◌≤◌, Bool, true, false, cond, List, [], ◌∷◌, ◌++◌}
use Rattle.std.proofs.Common.{refl, ap, ◌∙◌, arith, length, max, min, unwrap_or, Option, None, map}
use Rattle.std.proofs.Common.{filter}
use Rattle.std.specs.List.{range_with_len}
use Rattle.std.specs.Cmp.Lexicographic.{bytes_decides}
use Rattle.std.proofs.lemmas.Bool.{false_from_ne_true}
use Rattle.regatta_terms.specs.Effects.{Penalises, Decides, InRace, effect}
use Rattle.regatta_terms.specs.Entries.{EntryParts}
use Rattle.regatta_terms.specs.Rules.{RulesParts}
use Rattle.regatta_terms.specs.declared.limits.TheConstants.{MAX_RACES}
use Rattle.regatta_terms.specs.declared.sail.Sail.{Sail}
use Rattle.regatta_terms.specs.declared.command.Code.{Code}
use Rattle.regatta_terms.specs.declared.command.PenaltyKind.{PenaltyKind}
use Rattle.regatta_terms.specs.declared.command.PenaltyKind.TheVariants.{Zfp, Scp}
use Rattle.regatta_terms.specs.declared.command.Command.TheVariants.{Penalise}
use Rattle.regatta_scores.specs.declared.sheet.Held.{Held}
use Rattle.regatta_scores.specs.Changes.{with_decision}
use Rattle.regatta_scores.specs.Journal.{Journal, same_sail, acts, order, held, scored}
use Rattle.regatta_scores.specs.Lines.{line_by}
use Rattle.regatta_scores.specs.Order.{stands_in}
use Rattle.regatta_scores.specs.Outcomes.{score_of, scores}
use Rattle.regatta_scores.specs.RacePoints.{Race, status, status_by, base_by, dnf, place_points}
use Rattle.regatta_scores.specs.RacePoints.{penalty_points, plain, journal_race}
use Rattle.regatta_scores.specs.PenaltyLaws as law
use Rattle.regatta_scores.proofs.Apart.{same_entered, order_stays, told_stays, held_stays}
use Rattle.regatta_scores.proofs.OneMore.{held_from, held_step, counts_by, counts_step}

-- ---- what they cost

capped : (base p cap a b : ℕ) →
    let un = max base (min (base + 10 * (0 * a + 0 * b)) (10 * cap)) in
    let pen = max base (min (base + 10 * p) (10 * cap)) in
    (un ≤ pen) × (pen ≤ max un (10 * cap)) × (10 * cap ≤ un → pen ≡ un)
    × (un + 10 * p ≤ 10 * cap → pen ≡ un + 10 * p)
capped base p cap a b = (omega arith, omega arith, λ h. omega (arith, h), λ h. omega (arith, h))

pub every_penalty_is_capped : law.EveryPenaltyIsCapped
every_penalty_is_capped rules race boat =
    let cap = dnf same_sail rules race in
    let base = base_by (status same_sail race boat) (place_points same_sail race boat)
    (length race.entered) cap in
    let each = (2 * cap + 5) / 10 in
    let all = capped base (penalty_points rules cap (race.held boat)) cap each
    (unwrap_or rules.scp each) in
    record { no_better = all.0; capped = all.1; worse_stay = all.2; amount = all.3 }

pub twenty_percent_is_nearest : law.TwentyPercentIsNearest
twenty_percent_is_nearest rules dnf_score = (omega arith, omega arith)

-- ---- other boats

module _ (rules : RulesParts) (journal : Journal) (entry : EntryParts) (race : ℕ) (boat : Sail)
    (kind : PenaltyKind) (is : entry.command ≡ Penalise race boat kind) where
  does : effect entry.command ≡ InRace race (Decides boat (Penalises kind))
  does = ap effect is

  keeps_code : (h : Held) (k : PenaltyKind) → (with_decision h (Penalises k)).code ≡ h.code
  keeps_code h Zfp = refl
  keeps_code h Scp = refl

  code_stays : (r : ℕ) (other : Sail) →
      (held (journal ++ entry ∷ []) r other).code ≡ (held journal r other).code
  code_stays r other =
      told_stays (λ done. (held_from done other).code) journal entry race
      (Decides boat (Penalises kind)) does
      (ap (λ (h : Held). h.code)
      (held_step other (acts journal race) (Decides boat (Penalises kind)))
      ∙ by (same_sail other boat)) r
    where
      by : (b : Bool) →
          (cond b (with_decision (held journal race other) (Penalises kind))
          (held journal race other)).code ≡ (held journal race other).code
      by true = keeps_code (held journal race other) kind
      by false = refl

  scored_stays : scored (journal ++ entry ∷ []) ≡ scored journal
  scored_stays i =
      filter (λ r. told_stays counts_by journal entry race (Decides boat (Penalises kind)) does
      (counts_step (acts journal race) (Decides boat (Penalises kind))) r i)
      (range_with_len 1 MAX_RACES)

  order_is : (r : ℕ) → order rules (journal ++ entry ∷ []) r ≡ order rules journal r
  order_is = order_stays journal entry race boat (Penalises kind) does rules

  module _ (other : Sail) (another : same_sail other boat ≡ false) where
    held_is : (r : ℕ) → held (journal ++ entry ∷ []) r other ≡ held journal r other
    held_is = held_stays journal entry race boat (Penalises kind) does other another

    -- the race as it is told of all boats by their codes, and of this boat by what she holds
    abbrev seen : List Sail → List (List Sail) → (Sail → Option Code) → Held → ℕ
    seen boats groups codes hers =
        let told : Race Sail = record {
          entered = boats;
          order = groups;
          held = λ b. record { code = codes b; zfp = 0; scp = 0; redress = None };
        } in
        let cap = dnf same_sail rules told in
        let base = base_by (status_by hers.code (stands_in same_sail other groups))
        (place_points same_sail told other) (length boats) cap in
        max base (min (base + 10 * penalty_points rules cap hers) (10 * cap))

    plain_is : (r : ℕ) → plain same_sail rules (journal_race rules (journal ++ entry ∷ []) r) other
        ≡ plain same_sail rules (journal_race rules journal r) other
    plain_is r i =
        seen (same_entered journal entry race (Decides boat (Penalises kind)) does i) (order_is r i)
        (λ b. code_stays r b i) (held_is r i)

    scores_are : scores rules (journal ++ entry ∷ []) other ≡ scores rules journal other
    scores_are i =
        map (λ r. score_of (record {
          plain = plain_is r i;
          held = held_is r i;
          placed = stands_in same_sail other (order_is r i);
        })) (scored_stays i)

pub penalties_leave_others : law.PenaltiesLeaveOthers
penalties_leave_others rules journal entry race boat other kind is apart =
    let another : same_sail other boat ≡ false =
    false_from_ne_true _ (λ e. apart ((bytes_decides other boat).0 e)) in
    ap (line_by rules) (scores_are rules journal entry race boat kind is other another)
