-- No score is below 1.0 point.
use Rattle.std.proofs.Common.{◌≡◌, ℕ, suc, ◌+◌, ◌*◌, ◌≤◌, Bool, true, false, cond}
use Rattle.std.proofs.Common.{List, [], ◌∷◌, refl, ◌∙◌, sym, arith, length, get_or}
use Rattle.std.proofs.Common.{fold, take, drop, All, Option, Some, None, nat_eq}
use Rattle.std.specs.Prelude.{min, count_by, remove}
use Rattle.std.specs.List.{AllByRecursion, cons_option, enumerate_from}
use Rattle.std.proofs.Math.Path.{subst}
use Rattle.std.proofs.Math.Nat.{le-max_left}
use Rattle.std.proofs.lemmas.List.Elements.{All-map, All-filter, All-take, All-drop, All-append}
use Rattle.std.proofs.lemmas.List.Elements.{All-from_recursion, recursion_from_All}
use borrow.Author.Tests.{eqb-false}
use Rattle.regatta_terms.specs.Effects.{Decision, Marks, Penalises, Redresses, Clears, Act, Decides}
use Rattle.regatta_terms.specs.Effects.{Effect, Enters, InRace, effect}
use Rattle.regatta_terms.specs.Entries.{IsCommand, IsEntry, IsRedress}
use Rattle.regatta_terms.specs.declared.command.PenaltyKind.TheVariants.{Zfp, Scp}
use Rattle.regatta_terms.specs.Rules.{RulesParts}
use Rattle.regatta_terms.specs.declared.rules.Absent.{Absent}
use Rattle.regatta_terms.specs.declared.rules.Absent.TheVariants.{A52, A53}
use Rattle.regatta_terms.specs.declared.sail.Sail.{Sail}
use Rattle.regatta_terms.specs.declared.command.Code.TheVariants as code
use Rattle.regatta_terms.specs.declared.command.Redress as redress_type
use Rattle.regatta_terms.specs.declared.command.Redress.TheVariants.{Points, AllRaces, RacesBefore}
use Rattle.regatta_terms.specs.declared.command.Command.{Command}
use Rattle.regatta_terms.specs.declared.command.Command.TheVariants.{Redress}
use Rattle.regatta_scores.specs.declared.boats.Averaged.{Averaged}
use Rattle.regatta_scores.specs.declared.boats.Averaged.TheVariants.{OverNone, OverAll, OverBefore}
use Rattle.regatta_scores.specs.declared.boats.RaceScore.{RaceScore}
use Rattle.regatta_scores.specs.declared.table.Cell.{Cell}
use Rattle.regatta_scores.specs.declared.table.Row.{Row}
use Rattle.regatta_scores.specs.declared.sheet.Held.{Held}
use Rattle.regatta_scores.specs.Changes.{with_decision}
use Rattle.regatta_scores.specs.Journal.{Journal, same_sail, act_in, acts, held, scored}
use Rattle.regatta_scores.proofs.OneMore.{is_fold, held_from, held_after, held_step}
use Rattle.regatta_scores.specs.Sheet.{nothing_held}
use Rattle.regatta_scores.specs.RacePoints.{Race, Status, Finished, Coded, came, dnf_by, base_by}
use Rattle.regatta_scores.specs.RacePoints.{status, place_points, dnf, plain, penalty_points}
use Rattle.regatta_scores.specs.RacePoints.{journal_race}
use Rattle.regatta_scores.specs.Averages as averages
use Rattle.regatta_scores.specs.Averages.{is_own, average_over, redressed}
use Rattle.regatta_scores.specs.RedressLaws.{counted}
use Rattle.regatta_scores.specs.Outcomes.{redress_by, scores}
use Rattle.regatta_scores.specs.RankLaws.{cell_points, HasNoScoreBelowOne, NoScoreIsBelowOne}
use Rattle.regatta_scores.specs.Standing.{line, standing}
use Rattle.regatta_scores.specs.RankLaws.{BoatsBeatInThreeCases, EntriesBeatInThreeCases}
use Rattle.regatta_scores.proofs.A8Cases.{boats_are_beaten_in_three_cases}
use Rattle.regatta_scores.proofs.AverageBounds.{average, total, total_least, average_least}
use Rattle.regatta_scores.proofs.StandingRows.{cells_of, points_long, her_cells}
use Rattle.regatta_scores.proofs.StandingRows.{standing_has_the_entered}

-- ---- a score before redress

dnf_is_some : (absent : Absent) (entered came : ℕ) → 1 ≤ dnf_by absent entered came
dnf_is_some A52 entered came = omega arith
dnf_is_some A53 entered came = omega arith

base_is_high : (s : Status) (place entered dnf : ℕ) → 10 ≤ place → 1 ≤ dnf →
    10 ≤ base_by s place entered dnf
base_is_high Finished place entered dnf high some = high
base_is_high (Coded code.Dnc) place entered dnf high some = omega arith
base_is_high (Coded other) place entered dnf high some = omega arith

plain_is_high : (rules : RulesParts) (race : Race Sail) (boat : Sail) →
    10 ≤ plain same_sail rules race boat
plain_is_high rules race boat =
    let score = dnf same_sail rules race in
    let some : 1 ≤ score =
    dnf_is_some rules.absent (length race.entered)
    (count_by (λ other. came (status same_sail race other)) race.entered) in
    let placed : 10 ≤ place_points same_sail race boat = omega arith in
    let base =
    base_by (status same_sail race boat) (place_points same_sail race boat) (length race.entered)
    score in
    let high : 10 ≤ base =
    base_is_high (status same_sail race boat) (place_points same_sail race boat)
    (length race.entered) score placed some in
    let up : base ≤ plain same_sail rules race boat =
    le-max_left base (min (base + 10 * penalty_points rules score (race.held boat)) (10 * score)) in
    omega (arith, high, up)

-- ---- a score with redress

abbrev RedressIsInRange : Option redress_type.Redress → Type 0
RedressIsInRange None = Unit {0}
RedressIsInRange (Some redress) = IsRedress redress

abbrev IsHigh : RaceScore → Type 0
IsHigh score = 10 ≤ score.points

own_is_high : (plain : ℕ) (given : Option redress_type.Redress) → 10 ≤ plain →
    RedressIsInRange given → 10 ≤ (redress_by plain given).0
own_is_high plain None high range = high
own_is_high plain (Some (Points award)) high range = range.0
own_is_high plain (Some AllRaces) high range = high
own_is_high plain (Some RacesBefore) high range = high

average_is_high : (races : List RaceScore) (plain : ℕ) → 10 ≤ plain → All IsHigh races →
    10 ≤ average_over races plain
average_is_high races plain high each =
    by (length (counted races)) (total (counted races)) (nat_eq (length (counted races)) 0) refl
    (total_least (counted races) 10
    (All-filter (λ (score : RaceScore). is_own score.averaged) IsHigh races each))
  where
    by : (n s : ℕ) (b : Bool) → nat_eq n 0 ≡ b → 10 * n ≤ s → 10 ≤ cond b plain (average n s)
    by n s true e least = high
    by n s false e least = average_least n s 10 (omega (arith, eqb-false n 0 e)) least

redressed_is_high : (scores : List RaceScore) (i own : ℕ) (over : Averaged) → All IsHigh scores →
    10 ≤ own → 10 ≤ redressed scores i own over
redressed_is_high scores i own OverNone each high = high
redressed_is_high scores i own OverAll each high =
    average_is_high (remove scores i) own high
    (All-append IsHigh (take i scores) (drop (suc i) scores) (All-take IsHigh i scores each)
    (All-drop IsHigh (suc i) scores each))
redressed_is_high scores i own OverBefore each high =
    average_is_high (take i scores) own high (All-take IsHigh i scores each)

numbered : (n : ℕ) (scores : List RaceScore) → AllByRecursion IsHigh scores →
    AllByRecursion (λ (race : ℕ × RaceScore). IsHigh race.1) (enumerate_from n scores)
numbered n [] each = tt
numbered n (score ∷ scores) each = (each.0, numbered (n + 1) scores each.1)

points_are_high : (scores : List RaceScore) → All IsHigh scores →
    All (λ p. 10 ≤ p) (averages.points scores)
points_are_high scores each =
    let all : All (λ (race : ℕ × RaceScore). IsHigh race.1) (enumerate_from 0 scores) =
    All-from_recursion (λ (race : ℕ × RaceScore). IsHigh race.1) (enumerate_from 0 scores)
    (numbered 0 scores (recursion_from_All IsHigh scores each)) in
    All-map (λ p. 10 ≤ p)
    (λ (race : ℕ × RaceScore). redressed scores race.0 race.1.points race.1.averaged)
    (enumerate_from 0 scores) (λ k d h. (let race = get_or (enumerate_from 0 scores) k d in
    redressed_is_high scores race.0 race.1.points race.1.averaged each (all k d h)))

-- ---- the redress that a boat has by the journal

-- the redress of an act is in range
abbrev ActInRange : Act → Type 0
ActInRange (Decides sail (Redresses redress)) = IsRedress redress
ActInRange _ = Unit {0}

abbrev EffectInRange : Effect → Type 0
EffectInRange (Enters sail) = Unit {0}
EffectInRange (InRace race act) = ActInRange act

command_in_range : (c : Command) → IsCommand c → EffectInRange (effect c)
command_in_range (Redress race sail redress) h = h.2
command_in_range _ h = tt

acts_in_range : (race : ℕ) (journal : Journal) → AllByRecursion IsEntry journal →
    AllByRecursion ActInRange (acts journal race)
acts_in_range race [] each = tt
acts_in_range race (entry ∷ journal) each =
    by (effect entry.command) (command_in_range entry.command each.0.command)
    (acts_in_range race journal each.1)
  where
    by : (e : Effect) → EffectInRange e → AllByRecursion ActInRange (acts journal race) →
        AllByRecursion ActInRange (cons_option (act_in race e) (acts journal race))
    by (Enters sail) range rest = rest
    by (InRace r act) range rest = at (nat_eq race r)
      where
        at : (b : Bool) →
            AllByRecursion ActInRange (cons_option (cond b (Some act) None) (acts journal race))
        at true = (range, rest)
        at false = rest

held_in_range : (boat : Sail) (held : Held) (act : Act) → ActInRange act →
    RedressIsInRange held.redress → RedressIsInRange (held_after boat held act).redress
held_in_range boat held (Decides sail decision) range has =
    by (same_sail boat sail) (decided decision range)
  where
    decided : (d : Decision) → ActInRange (Decides sail d) →
        RedressIsInRange (with_decision held d).redress
    decided (Marks code) range = has
    decided (Penalises Zfp) range = has
    decided (Penalises Scp) range = has
    decided (Redresses redress) range = range
    decided Clears range = tt

    by : (b : Bool) → RedressIsInRange (with_decision held decision).redress →
        RedressIsInRange (cond b (with_decision held decision) held).redress
    by true after = after
    by false after = has
held_in_range boat held _ range has = has

redress_after : (boat : Sail) (held : Held) (acts : List Act) → AllByRecursion ActInRange acts →
    RedressIsInRange held.redress → RedressIsInRange (fold (held_after boat) held acts).redress
redress_after boat held [] each has = has
redress_after boat held (act ∷ acts) each has =
    redress_after boat (held_after boat held act) acts each.1
    (held_in_range boat held act each.0 has)

redress_in_range : (journal : Journal) (race : ℕ) (boat : Sail) → All IsEntry journal →
    RedressIsInRange (held journal race boat).redress
redress_in_range journal race boat each =
    subst (λ h. RedressIsInRange h.redress)
    (sym (is_fold (λ done. held_from done boat) (held_after boat) (held_step boat) []
    (acts journal race)))
    (redress_after boat nothing_held (acts journal race)
    (acts_in_range race journal (recursion_from_All IsEntry journal each)) tt)

-- ---- all scores by the journal

module _ (rules : RulesParts) (journal : Journal) (each : All IsEntry journal) where
  races_are_high : (boat : Sail) → All IsHigh (scores rules journal boat)
  races_are_high boat =
      All-map IsHigh _ (scored journal) (λ k d h. at (get_or (scored journal) k d))
    where
      at : (race : ℕ)
          → 10 ≤ (redress_by (plain same_sail rules (journal_race rules journal race) boat)
          (held journal race boat).redress).0
      at race =
          own_is_high (plain same_sail rules (journal_race rules journal race) boat)
          (held journal race boat).redress
          (plain_is_high rules (journal_race rules journal race) boat)
          (redress_in_range journal race boat each)

  scores_are_high : (boat : Sail) → All (λ p. 10 ≤ p) (line rules journal boat).points
  scores_are_high boat = points_are_high (scores rules journal boat) (races_are_high boat)

  cells_by : (hers : List Cell) → AllByRecursion (λ p. 10 ≤ p) (cell_points hers) →
      AllByRecursion (λ (cell : Cell). 10 ≤ cell.points) hers
  cells_by [] all = tt
  cells_by (cell ∷ hers) all = (all.0, cells_by hers all.1)

  cells_are_high : (boat : Sail) →
      All (λ (cell : Cell). 10 ≤ cell.points) (cells_of rules journal boat)
  cells_are_high boat =
      let hers = cells_of rules journal boat in
      let high : All (λ p. 10 ≤ p) (cell_points (cells_of rules journal boat)) =
      subst (All (λ p. 10 ≤ p)) (sym (her_cells rules journal boat).0) (scores_are_high boat) in
      All-from_recursion (λ (cell : Cell). 10 ≤ cell.points) hers
      (cells_by hers (recursion_from_All (λ p. 10 ≤ p) (cell_points hers) high))

  pub no_score_below_one : HasNoScoreBelowOne rules journal
  no_score_below_one =
      let are = standing_has_the_entered rules journal in
      record {
        of_boats = scores_are_high;
        in_cells = λ k d h.
            (subst (λ (r : Row). All (λ (cell : Cell). 10 ≤ cell.points) r.cells)
            (sym (are.hers k d h))
            (cells_are_high (get_or (standing rules journal).rows k d).sail));
      }

  pub boats_beat_in_three_cases : BoatsBeatInThreeCases rules journal
  boats_beat_in_three_cases a b =
      boats_are_beaten_in_three_cases (line rules journal a) (line rules journal b)
      (scores_are_high a) (scores_are_high b)
      (points_long rules journal a ∙ sym (points_long rules journal b))

-- ---- journals of entries

pub no_score_is_below_one : NoScoreIsBelowOne
no_score_is_below_one rules journal each = no_score_below_one rules journal each

pub entries_beat_in_three_cases : EntriesBeatInThreeCases
entries_beat_in_three_cases rules journal each = boats_beat_in_three_cases rules journal each
