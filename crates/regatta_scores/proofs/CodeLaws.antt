-- Scores of boats with a code, and what a late entry changes.
use Rattle.std.proofs.Common.{◌≡◌, ◌≢◌, ℕ, ◌+◌, ◌*◌, ◌≤◌, [], ◌∷◌, ◌++◌, refl, ap, ◌∙◌, sym, arith}
use Rattle.std.proofs.Common.{length, count_by, max, min, ◌/◌, unwrap_or}
use Rattle.std.specs.List.{cons_option}
use Rattle.std.proofs.lemmas.List.{length-append}
use Rattle.std.proofs.lemmas.List.Sums.{count_by-le-length}
use Rattle.regatta_terms.specs.Effects.{effect}
use Rattle.regatta_terms.specs.declared.sail.Sail.{Sail}
use Rattle.regatta_terms.specs.declared.command.Code.{Code}
use Rattle.regatta_terms.specs.declared.command.Code.TheVariants.{Dnc}
use Rattle.regatta_scores.specs.declared.sheet.Held.{Held}
use Rattle.regatta_scores.specs.Journal.{same_sail, sail_entered, entered}
use Rattle.regatta_scores.specs.RacePoints.{Race, Status, Finished, Coded, status, came, dnf_by}
use Rattle.regatta_scores.specs.RacePoints.{base_by, dnf, place_points, penalty_points, plain}
use Rattle.regatta_scores.specs.RacePoints.{journal_race}
use Rattle.regatta_scores.specs.CodeLaws as law
use Rattle.regatta_scores.proofs.Apart.{entered_more, enter_keeps_races}

-- a score by its parts
abbrev by_parts : Status → ℕ → ℕ → ℕ → ℕ → ℕ
by_parts s place_points entered cap penalty =
    let base = base_by s place_points entered cap in
    max base (min (base + 10 * penalty) (10 * cap))

-- ---- a code

code_at_cap : (code : Code) (p n k : ℕ) → by_parts (Coded code) p n (n + 1) k ≡ 10 * (n + 1)
code_at_cap Dnc p n k = omega arith
code_at_cap _ p n k = omega arith

code_by_cap : (code : Code) (p n cap k : ℕ) → code ≢ Dnc →
    by_parts (Coded code) p n cap k ≡ 10 * cap
code_by_cap Dnc p n cap k not = absurd (not refl)
code_by_cap _ p n cap k not = omega arith

dnc_stays : (p n cap k : ℕ) → cap ≤ n + 1 → by_parts (Coded Dnc) p n cap k ≡ 10 * (n + 1)
dnc_stays p n cap k few = omega (arith, few)

pub unplaced_by_a52 : law.UnplacedByA52
unplaced_by_a52 rules race boat a52 not = by (status same_sail race boat) refl
  where
    n : ℕ
    n = length race.entered

    here : ℕ
    here = count_by (λ b. came (status same_sail race b)) race.entered

    k : ℕ
    k = penalty_points rules (dnf same_sail rules race) (race.held boat)

    by : (s : Status) → status same_sail race boat ≡ s →
        plain same_sail rules race boat ≡ 10 * (length race.entered + 1)
    by Finished e = absurd (not e)
    by (Coded code) e =
        (λ i. by_parts (e i) (place_points same_sail race boat) n (dnf_by (a52 i) n here) k)
        ∙ code_at_cap code (place_points same_sail race boat) n k

pub unplaced_by_a53 : law.UnplacedByA53
unplaced_by_a53 rules race boat code a53 e = (
  λ not. (λ i. by_parts (e i) p n (dnf_by (a53 i) n here) k) ∙ code_by_cap code p n (here + 1) k not,
  λ same. (λ i. by_parts (e i) p n (dnf_by (a53 i) n here) k)
      ∙ ap (λ c. by_parts (Coded c) p n (here + 1) k) same
      ∙ dnc_stays p n (here + 1) k (omega (arith, few)),
  few,
)
  where
    p : ℕ
    p = place_points same_sail race boat

    n : ℕ
    n = length race.entered

    here : ℕ
    here = count_by (λ b. came (status same_sail race b)) race.entered

    k : ℕ
    k = penalty_points rules (dnf same_sail rules race) (race.held boat)

    few : here ≤ n
    few = count_by-le-length (λ b. came (status same_sail race b)) race.entered

-- ---- a late entry

unpenalised : (p n cap a b : ℕ) → by_parts Finished p n cap (0 * a + 0 * b) ≡ p
unpenalised p n cap a b = omega arith

never_finished : (code : Code) → Coded code ≢ Finished
never_finished code e = cc

pub late_entries_cost_codes : law.LateEntriesCostCodes
late_entries_cost_codes rules journal entry sail race a52 is =
    let old = journal_race rules journal race in
    let new = journal_race rules (journal ++ entry ∷ []) race in
    let keeps = enter_keeps_races rules journal entry sail is race in
    let longer : length new.entered ≡ length old.entered + 1 =
    ap length (entered_more journal entry
    ∙ ap (λ c. entered journal ++ cons_option (sail_entered (effect c)) []) is)
    ∙ length-append (entered journal) (sail ∷ []) in
    let cap : (r : Race Sail) → dnf same_sail rules r ≡ length r.entered + 1 =
    λ r. ap (λ x. dnf_by x (length r.entered)
    (count_by (λ b. came (status same_sail r b)) r.entered)) a52 in
    let same_status : (boat : Sail) → status same_sail new boat ≡ status same_sail old boat =
    λ boat i. status same_sail (record {
      entered = entered journal;
      order = keeps.0 i;
      held = λ b. keeps.1 b i;
    }) boat in
    let same_place : (boat : Sail) → place_points same_sail new boat
    ≡ place_points same_sail old boat =
    λ boat i. place_points same_sail (record {
      entered = entered journal;
      order = keeps.0 i;
      held = λ b. keeps.1 b i;
    }) boat in
    record {
      dnf_score = cap new ∙ ap (λ n. n + 1) longer ∙ sym (ap (λ n. n + 1) (cap old));
      codes = λ boat code e. (let not_old = λ (f : status same_sail old boat ≡ Finished).
          never_finished code (sym e ∙ f) in
          let not_new = λ (f : status same_sail new boat ≡ Finished).
          never_finished code (sym e ∙ sym (same_status boat) ∙ f) in
          let one = unplaced_by_a52 rules new boat a52 not_new in
          let other = unplaced_by_a52 rules old boat a52 not_old in
          omega (arith, one, other, longer));
      places = same_place;
      finishers = λ boat e no_zfp no_scp. (let q = λ (r : Race Sail).
          (2 * dnf same_sail rules r + 5) / 10 in
          let cost = λ (r : Race Sail). unwrap_or rules.scp (q r) in
          let score : (r : Race Sail) → status same_sail r boat ≡ Finished →
          (r.held boat).zfp ≡ 0 → (r.held boat).scp ≡ 0 →
          plain same_sail rules r boat ≡ place_points same_sail r boat =
          λ r f z s. (λ i. by_parts (f i) (place_points same_sail r boat) (length r.entered)
          (dnf same_sail rules r) (z i * q r + s i * cost r))
          ∙ unpenalised (place_points same_sail r boat) (length r.entered)
          (dnf same_sail rules r) (q r) (cost r) in
          score new (same_status boat ∙ e) (ap (λ (h : Held). h.zfp) (keeps.1 boat) ∙ no_zfp)
          (ap (λ (h : Held). h.scp) (keeps.1 boat) ∙ no_scp)
          ∙ same_place boat ∙ sym (score old e no_zfp no_scp));
    }
