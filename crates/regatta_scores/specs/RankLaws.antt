-- Laws of exclusions, ranks and the standing (RRS A2.1, A8, 90.3(b)).
use Rattle.std.specs.Prelude.{◌≡◌, ◌↔◌, ◌⊎◌, ℕ, ◌+◌, ◌<◌, ◌≤◌, true, false, not, nat_eq, nat_lt}
use Rattle.std.specs.Prelude.{List, length, map, filter, take, reverse, slice_index, count_by, All}
use Rattle.std.specs.Prelude.{Bool, Any, AllPairs, Contains, IsPermutation, min, slice_get, Some}
use Rattle.std.specs.Ordering.{nat_cmp, ordering_then, is_le}
use Rattle.std.specs.Cmp.Lexicographic.{slice_cmp}
use Rattle.std.specs.List.Sorted.{IsNonDecreasing}
use Rattle.std.specs.Cmp.{IsTotalOrder}
use Rattle.std.specs.declared.cmp.Ordering.TheVariants.{Equal}
use Rattle.regatta_terms.specs.Rules.{RulesParts}
use Rattle.regatta_terms.specs.declared.sail.Sail.{Sail}
use Rattle.regatta_terms.specs.Entries.{IsEntry}
use Rattle.regatta_scores.specs.declared.table.Cell.{Cell}
use Rattle.regatta_scores.specs.declared.table.Row.{Row}
use Rattle.regatta_scores.specs.Exclusions.{counting, excluded}
use Rattle.regatta_scores.specs.Journal.{Journal, entered}
use Rattle.regatta_scores.specs.Ranking.{BoatScores, net, rising, best_to_worst, comparison, beats}
use Rattle.regatta_scores.specs.Ranking.{rank}
use Rattle.regatta_scores.specs.Standing.{line, row, standing}
use Rattle.regatta_scores.specs.declared.boats.Scored.{Scored}

-- ---- the comparison of boats

-- The comparison (A2.1, A8) is a total order: swapping two boats reverses it, it is transitive, and
-- boats that compare as equal compare in the same way with each other boat.
abbrev pub ComparisonIsTotal : Type 0
ComparisonIsTotal = IsTotalOrder comparison

-- The same for beating (A8): no boat beats herself, no two boats beat each other, and beating and
-- ties are transitive.
pub record BeatingIsAnOrder : Type 0 where
  pub itself : (a : BoatScores) → comparison a a ≡ Equal
  pub one_way : (a b : BoatScores) → beats a b ≡ true → beats b a ≡ false
  pub chains : (a b c : BoatScores) → beats a b ≡ true → beats b c ≡ true → beats a c ≡ true
  pub ties_chain : (a b c : BoatScores) →
      comparison a b ≡ Equal → comparison b c ≡ Equal → comparison a c ≡ Equal
  pub tied : (a b : BoatScores) → beats a b ≡ false → beats b a ≡ false → comparison a b ≡ Equal

-- The counting scores sorted from best to worst rise, and are the same scores (A8.1).
abbrev pub CountingScoresRise : Type 0
CountingScoresRise = (line : BoatScores) →
    IsNonDecreasing (best_to_worst line)
    × IsPermutation (counting line.points line.excluded) (best_to_worst line)

-- ---- ties

-- the lines of all boats entered in the series, in the order of the entry list (A2.2, A8)
abbrev pub lines : RulesParts → Journal → List BoatScores
lines rules journal = map (line rules journal) (entered journal)

-- Two boats share a rank if and only if their series scores, their scores that count from best to
-- worst and their points in each race are equal (A8).
abbrev pub TiesAreComplete : Type 0
TiesAreComplete = (rules : RulesParts) (journal : Journal) (a b : Sail) →
    Contains (entered journal) a → Contains (entered journal) b →
    (rank (lines rules journal) (line rules journal a)
    ≡ rank (lines rules journal) (line rules journal b))
    ↔ ((net (line rules journal a) ≡ net (line rules journal b))
    × (best_to_worst (line rules journal a) ≡ best_to_worst (line rules journal b))
    × ((line rules journal a).points ≡ (line rules journal b).points))

-- the points in the cells of a row, in order of races (A8.2)
abbrev pub cell_points : List Cell → List ℕ
cell_points cells = map (λ cell. cell.points) cells

-- those of them that are not excluded (A8.1)
abbrev pub counting_points : List Cell → List ℕ
counting_points cells = cell_points (filter (λ cell. not cell.dropped) cells)

-- The same for the rows of the standing (A8).
abbrev pub RowsTieCompletely : Type 0
RowsTieCompletely = (rules : RulesParts) (journal : Journal) (a b : Row) →
    Contains (standing rules journal).rows a → Contains (standing rules journal).rows b →
    (a.rank ≡ b.rank) ↔ ((a.net ≡ b.net)
    × (rising (counting_points a.cells) ≡ rising (counting_points b.cells))
    × (cell_points a.cells ≡ cell_points b.cells))

-- ---- the rows of the standing

-- whether the first row comes no later than the second: by rank (A8), then by sail
abbrev pub comes_first : Row → Row → Bool
comes_first a b = is_le (ordering_then (nat_cmp a.rank b.rank) (slice_cmp nat_cmp a.sail b.sail))

-- each boat entered has one row, which is hers, and the rows are in order of rank and then sail
-- (A2.2)
pub record RowsAreTheEntered (rules : RulesParts) (journal : Journal) : Type 0 where
  pub each_once : IsPermutation (entered journal) (map (λ r. r.sail) (standing rules journal).rows)
  pub hers :
      All (λ r. r ≡ row rules journal (lines rules journal) r.sail) (standing rules journal).rows
  pub in_order : AllPairs (λ a b. comes_first a b ≡ true) (standing rules journal).rows

-- This holds for any rules and any journal (A2.2).
abbrev pub StandingHasTheEntered : Type 0
StandingHasTheEntered = (rules : RulesParts) (journal : Journal) → RowsAreTheEntered rules journal

-- ---- ranks

-- the number of boats with a boat's rank, herself included: those tied with her after A8
abbrev pub sharers : List BoatScores → BoatScores → ℕ
sharers lines line = count_by (λ other. nat_eq (rank lines other) (rank lines line)) lines

-- ranks start at 1; a boat's rank is one more than the number of boats ranked above her; after k
-- boats that share rank r the next rank is r + k (A8)
pub record RanksFollow (lines : List BoatScores) : Type 0 where
  pub above : (a : BoatScores) → Contains lines a →
      rank lines a ≡ 1 + count_by (λ other. nat_lt (rank lines other) (rank lines a)) lines
  pub first : 0 < length lines → Any (λ a. rank lines a ≡ 1) lines
  pub no_lower : (a b : BoatScores) → Contains lines a → Contains lines b →
      rank lines a < rank lines b → rank lines a + sharers lines a ≤ rank lines b
  pub next : (a : BoatScores) → Contains lines a → rank lines a + sharers lines a ≤ length lines →
      Any (λ b. rank lines b ≡ rank lines a + sharers lines a) lines

-- This holds for any boats (A2.1, A8).
abbrev pub RanksFollowEachOther : Type 0
RanksFollowEachOther = (lines : List BoatScores) → RanksFollow lines

-- ---- the three cases of A8

-- the lists are equal up to a position where both continue and the first has the lower number: the
-- first difference of A8.1 and A8.2
pub record IsLowerAtFirst (xs ys : List ℕ) : Type 0 where
  pub at : ℕ
  pub in_first : at < length xs
  pub in_second : at < length ys
  pub same : take at xs ≡ take at ys
  pub lower : slice_index xs at < slice_index ys at

-- a boat is better by her series score. If those are equal, the first difference of the scores that
-- count from best to worst decides (A8.1). If those are equal too, the first difference from the
-- last race back does, excluded scores included (A8.2)
abbrev pub IsBetter : BoatScores → BoatScores → Type 0
IsBetter a b =
    (net a < net b) ⊎ ((net a ≡ net b) × IsLowerAtFirst (best_to_worst a) (best_to_worst b))
    ⊎ ((net a ≡ net b) × (best_to_worst a ≡ best_to_worst b)
    × IsLowerAtFirst (reverse a.points) (reverse b.points))

-- If boats have equally many races and no score below 1.0, they beat each other in these three
-- cases and no other (A2.1, A8.1, A8.2).
abbrev pub BeatsInThreeCases : Type 0
BeatsInThreeCases = (a b : BoatScores) →
    All (λ p. 10 ≤ p) a.points → All (λ p. 10 ≤ p) b.points → length a.points ≡ length b.points →
    (beats a b ≡ true) ↔ IsBetter a b

-- ---- all scores of a series

-- under these rules no score of a boat by the journal is below 1.0, and none in a cell of the
-- standing
pub record HasNoScoreBelowOne (rules : RulesParts) (journal : Journal) : Type 0 where
  pub of_boats : (boat : Sail) → All (λ points. 10 ≤ points) (line rules journal boat).points
  pub in_cells :
      All (λ (row : Row). All (λ (cell : Cell). 10 ≤ cell.points) row.cells)
      (standing rules journal).rows

-- Under any rules, no score of a journal is below 1.0 if the parts of its entries are in range.
abbrev pub NoScoreIsBelowOne : Type 0
NoScoreIsBelowOne = (rules : RulesParts) (journal : Journal) → All IsEntry journal →
    HasNoScoreBelowOne rules journal

-- by the journal, one boat beats another in the three cases and in no other (A2.1, A8.1, A8.2)
abbrev pub BoatsBeatInThreeCases : RulesParts → Journal → Type 0
BoatsBeatInThreeCases rules journal = (a b : Sail) →
    (beats (line rules journal a) (line rules journal b) ≡ true)
    ↔ IsBetter (line rules journal a) (line rules journal b)

-- Under any rules, this holds for a journal if the parts of its entries are in range.
abbrev pub EntriesBeatInThreeCases : Type 0
EntriesBeatInThreeCases = (rules : RulesParts) (journal : Journal) → All IsEntry journal →
    BoatsBeatInThreeCases rules journal

-- ---- exclusions

-- with d exclusions: as many scores are excluded as may be, and no DNE is. An excluded score is
-- worse than each excludable one that counts, or equal and of a race sailed earlier (A2.1, 90.3(b))
pub record ExcludesTheWorst (d : ℕ) (scores : List Scored) : Type 0 where
  pub one_for_each : length (excluded d scores) ≡ length scores
  pub as_many :
      count_by (λ flag. flag) (excluded d scores) ≡ min d (count_by (λ s. not s.dne) scores)
  pub no_dne : (i : ℕ) (s : Scored) → slice_get scores i ≡ Some s → s.dne ≡ true →
      slice_get (excluded d scores) i ≡ Some false
  pub worst : (i j : ℕ) (s t : Scored) → slice_get scores i ≡ Some s → slice_get scores j ≡ Some t →
      slice_get (excluded d scores) i ≡ Some true → slice_get (excluded d scores) j ≡ Some false →
      t.dne ≡ false → (t.points < s.points) ⊎ ((t.points ≡ s.points) × (i < j))

-- Whatever the scores and the number of exclusions, the worst scores are excluded (A2.1, 90.3(b)).
abbrev pub WorstAreExcluded : Type 0
WorstAreExcluded = (d : ℕ) (scores : List Scored) → ExcludesTheWorst d scores
