-- Redress: averages by their races, and points that stand.
use Rattle.std.proofs.Common.{◌≡◌, ◌≢◌, ℕ, ◌+◌, ◌<◌, ◌≤◌, List, [], ◌∷◌, ◌++◌, refl, ap, ◌∙◌, sym, subst}
use Rattle.std.proofs.Common.{arith, length, take, map, slice_get, Some, None}
use Rattle.std.specs.List.{AllByRecursion, enumerate_from}
use Rattle.std.specs.Option.{option_map}
use Rattle.std.proofs.lemmas.List.{take-append-le, append-nil}
use Rattle.std.proofs.lemmas.List.Elements.{recursion_from_All}
use Rattle.std.proofs.lemmas.Option.{slice_get-map}
use Rattle.regatta_terms.specs.Effects.{effect}
use Rattle.regatta_scores.specs.declared.boats.Averaged.{Averaged}
use Rattle.regatta_scores.specs.declared.boats.Averaged.TheVariants.{OverNone, OverAll, OverBefore}
use Rattle.regatta_scores.specs.declared.boats.RaceScore.{RaceScore}
use Rattle.regatta_scores.specs.declared.table.Row.{Row}
use Rattle.regatta_scores.specs.Averages.{average_over, points, redressed}
use Rattle.regatta_scores.specs.Journal.{Journal, act_in, acts, scored}
use Rattle.regatta_scores.specs.Marks.{mark_by}
use Rattle.regatta_scores.specs.Outcomes.{redress_by}
use Rattle.regatta_scores.specs.RacePoints.{status_by}
use Rattle.regatta_scores.specs.RankLaws.{lines}
use Rattle.regatta_scores.specs.Standing.{row, standing}
use Rattle.regatta_scores.specs.AppendixA.{IsRowOf}
use Rattle.regatta_scores.specs.AwardLaws as law
use Rattle.regatta_scores.proofs.Apart.{acts_append}
use Rattle.regatta_scores.proofs.ExclusionCounts.{enumerate_at}
use Rattle.regatta_scores.proofs.FitRaces.{work}
use Rattle.regatta_scores.proofs.FitRows.{row_fits}
use Rattle.regatta_scores.proofs.Members.{all_at}
use Rattle.regatta_scores.proofs.OneMore.{held_from}
use Rattle.regatta_scores.proofs.RaceNumbers.{contains_zip}
use Rattle.regatta_scores.proofs.StandingRows.{standing_has_the_entered}

-- ---- averages

point_at : (scores : List RaceScore) (i : ℕ) (s : RaceScore) → slice_get scores i ≡ Some s →
    slice_get (points scores) i ≡ Some (redressed scores i s.points s.averaged)
point_at scores i s at =
    let point = λ (race : ℕ × RaceScore). redressed scores race.0 race.1.points race.1.averaged in
    slice_get-map point (enumerate_from 0 scores) i
    ∙ ap (option_map point) (enumerate_at 0 scores i i s (omega arith) at)

pub each_race_has_its_average : law.EachRaceHasItsAverage
each_race_has_its_average scores = record {
  own = λ i s at e. point_at scores i s at ∙ ap (λ m. Some (redressed scores i s.points m)) e;
  all = λ i s at e. point_at scores i s at ∙ ap (λ m. Some (redressed scores i s.points m)) e;
  before = λ i s at e. point_at scores i s at ∙ ap (λ m. Some (redressed scores i s.points m)) e;
}

-- ---- later races

same_redressed : (earlier later : List RaceScore) (i own : ℕ) (over : Averaged) →
    i ≤ length earlier → over ≢ OverAll →
    redressed (earlier ++ later) i own over ≡ redressed earlier i own over
same_redressed earlier later i own OverNone within not_all = refl
same_redressed earlier later i own OverAll within not_all = absurd (not_all refl)
same_redressed earlier later i own OverBefore within not_all =
    ap (λ scores. average_over scores own) (take-append-le i earlier later within)

taken_same : (f g : ℕ × RaceScore → ℕ) (n : ℕ) (xs ys : List RaceScore) →
    AllByRecursion (λ s. s.averaged ≢ OverAll) xs →
    ((j : ℕ) (s : RaceScore) → j < n + length xs → s.averaged ≢ OverAll → f (j, s) ≡ g (j, s)) →
    take (length xs) (map f (enumerate_from n (xs ++ ys))) ≡ map g (enumerate_from n xs)
taken_same f g n [] ys all same = refl
taken_same f g n (x ∷ xs) ys all same =
    let here = same n x (omega arith) all.0 in
    let rest = taken_same f g (n + 1) xs ys all.1
    (λ j s below not_all. same j s (omega (arith, below)) not_all) in
    λ i. here i ∷ rest i

pub later_races_dont_count : law.LaterRacesDontCount
later_races_dont_count earlier later all =
    let point = λ (scores : List RaceScore) (race : ℕ × RaceScore).
    redressed scores race.0 race.1.points race.1.averaged in
    taken_same (point (earlier ++ later)) (point earlier) 0 earlier later
    (recursion_from_All (λ s. s.averaged ≢ OverAll) earlier all)
    (λ j s below not_all. same_redressed earlier later j s.points s.averaged
    (omega (arith, below)) not_all)

-- ---- points

pub awards_stand : law.AwardsStand
awards_stand outcome award e = (
  ap (λ r. (redress_by outcome.plain r).0) e,
  ap (λ r. (redress_by outcome.plain r).1) e,
  ap (λ r. mark_by r (status_by outcome.held.code outcome.placed) outcome.held.zfp
      outcome.held.scp) e,
)

none_of : (race : ℕ) (later : Journal) →
    AllByRecursion (λ entry. act_in race (effect entry.command) ≡ None) later →
    acts later race ≡ []
none_of race [] all = refl
none_of race (entry ∷ later) all = rw all.0 (none_of race later all.1)

pub awards_stand_whatever_comes : law.AwardsStandWhateverComes
awards_stand_whatever_comes rules journal later race award row_of i cell elsewhere has given counts
    hers =
    let whole = journal ++ later in
    let rows = (standing rules whole).rows in
    let same : acts whole race ≡ acts journal race =
    acts_append journal later race
    ∙ ap (λ done. acts journal race ++ done) (none_of race later (recursion_from_All
    (λ entry. act_in race (effect entry.command) ≡ None) later elsewhere))
    ∙ append-nil (acts journal race) in
    let is : row_of ≡ row rules whole (lines rules whole) row_of.sail =
    all_at (λ (r : Row). r ≡ row rules whole (lines rules whole) r.sail) rows row_of
    (standing_has_the_entered rules whole).hers has in
    let fits : IsRowOf rules whole (work rules whole) row_of =
    subst (IsRowOf rules whole (work rules whole)) (sym is)
    (row_fits rules whole (lines rules whole) row_of.sail) in
    (fits.cells race cell (contains_zip (scored whole) row_of.cells i race cell counts hers)).a9_c award
    (ap (λ done. (held_from done row_of.sail).redress) same ∙ given)
