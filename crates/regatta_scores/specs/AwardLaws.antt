-- Laws of redress in one race and over the races of a series (RRS A9).
use Rattle.std.specs.Prelude.{◌≡◌, ◌≢◌, ℕ, List, ◌++◌, length, take, remove, All, Contains, slice_get}
use Rattle.std.specs.Prelude.{Some, None}
use Rattle.regatta_terms.specs.Effects.{effect}
use Rattle.regatta_terms.specs.Rules.{RulesParts}
use Rattle.regatta_terms.specs.declared.command.Redress.TheVariants.{Points}
use Rattle.regatta_scores.specs.declared.boats.Averaged.TheVariants.{OverNone, OverAll, OverBefore}
use Rattle.regatta_scores.specs.declared.boats.RaceScore.{RaceScore}
use Rattle.regatta_scores.specs.declared.outcomes.Outcome.{Outcome}
use Rattle.regatta_scores.specs.declared.table.Abbrev.TheVariants as abbreviation
use Rattle.regatta_scores.specs.declared.table.Cell.{Cell}
use Rattle.regatta_scores.specs.declared.table.Row.{Row}
use Rattle.regatta_scores.specs.Averages.{average_over, points}
use Rattle.regatta_scores.specs.Journal.{Journal, act_in, scored, held}
use Rattle.regatta_scores.specs.Outcomes.{score_of}
use Rattle.regatta_scores.specs.Standing.{standing}

-- Her points in each race are her own; or the average of all other races; or of those before it.
pub record HasItsAverages (scores : List RaceScore) : Type 0 where
  pub own : (i : ℕ) (s : RaceScore) → slice_get scores i ≡ Some s → s.averaged ≡ OverNone →
      slice_get (points scores) i ≡ Some s.points
  pub all : (i : ℕ) (s : RaceScore) → slice_get scores i ≡ Some s → s.averaged ≡ OverAll →
      slice_get (points scores) i ≡ Some (average_over (remove scores i) s.points)
  pub before : (i : ℕ) (s : RaceScore) → slice_get scores i ≡ Some s → s.averaged ≡ OverBefore →
      slice_get (points scores) i ≡ Some (average_over (take i scores) s.points)

-- This holds of all scores (A9(a), (b)).
abbrev pub EachRaceHasItsAverage : Type 0
EachRaceHasItsAverage = (scores : List RaceScore) → HasItsAverages scores

-- Later races change no points of earlier ones, but for averages of all races (A9(a), (b)).
abbrev pub LaterRacesDontCount : Type 0
LaterRacesDontCount = (earlier later : List RaceScore) → All (λ s. s.averaged ≢ OverAll) earlier →
    take (length earlier) (points (earlier ++ later)) ≡ points earlier

-- Points given as redress are her score, whatever her place, code and penalties (A9(c)).
abbrev pub AwardsStand : Type 0
AwardsStand = (outcome : Outcome) (award : ℕ) → outcome.held.redress ≡ Some (Points award) →
    ((score_of outcome).points ≡ award) × ((score_of outcome).averaged ≡ OverNone)
    × ((score_of outcome).mark ≡ Some abbreviation.Rdg)

-- Points given as redress in a race are in her cell for it, whatever is done later in other races
-- (A9(c)).
abbrev pub AwardsStandWhateverComes : Type 0
AwardsStandWhateverComes = (rules : RulesParts) (journal later : Journal) (race award : ℕ)
    (row : Row) (i : ℕ) (cell : Cell) →
    All (λ entry. act_in race (effect entry.command) ≡ None) later →
    Contains (standing rules (journal ++ later)).rows row →
    (held journal race row.sail).redress ≡ Some (Points award) →
    slice_get (scored (journal ++ later)) i ≡ Some race → slice_get row.cells i ≡ Some cell →
    cell.points ≡ award
