-- Appendix A of the racing rules (RRS), sentence by sentence: which tables are the standing of a
-- journal. Each field is a rule; (own) marks a choice of this office where the rules leave one.
-- Nothing here says how a table is computed. Points are in tenths, if not called whole points.
use Rattle.std.specs.Prelude.{◌≡◌, ◌≢◌, ◌↔◌, ◌⊎◌, ℕ, ◌+◌, ◌*◌, ◌<◌, ◌≤◌, min, Bool, true, false}
use Rattle.std.specs.Prelude.{not, ◌&&◌, nat_eq, nat_lt, List, [], ◌∷◌, ◌++◌, length, map, filter}
use Rattle.std.specs.Prelude.{flat_map, reverse, zip, sum, count_by, All, AllPairs, Contains, Some}
use Rattle.std.specs.Prelude.{Option, None, is_none, unwrap_or, IsPermutation, fold}
use Rattle.std.specs.List.Sorted.{IsNonDecreasing}
use Rattle.regatta_terms.specs.Rules.{RulesParts, exclusions_of}
use Rattle.regatta_terms.specs.declared.rules.Absent.TheVariants.{A52, A53}
use Rattle.regatta_terms.specs.declared.sail.Sail.{Sail}
use Rattle.regatta_terms.specs.declared.command.Code.{Code}
use Rattle.regatta_terms.specs.declared.command.Code.TheVariants.{Dnc}
use Rattle.regatta_terms.specs.declared.command.Redress.{Redress}
use Rattle.regatta_terms.specs.declared.command.Redress.TheVariants.{Points, AllRaces, RacesBefore}
use Rattle.regatta_scores.specs.declared.table.Cell.{Cell}
use Rattle.regatta_scores.specs.declared.table.Row.{Row}
use Rattle.regatta_scores.specs.declared.table.Standing.{Standing}
use Rattle.regatta_scores.specs.CorrectedTimes.{CorrectedTime}
use Rattle.regatta_scores.specs.Journal.{Journal, same_sail, entered, scored, acts, order_after}
use Rattle.regatta_scores.specs.Journal.{lasting_times, held}
use Rattle.regatta_scores.specs.Order.{stands_in}
use Rattle.regatta_scores.specs.Marks.{mark_by}
use Rattle.regatta_scores.specs.RacePoints.{Status, Coded, status_by, came, is_dne}
use Rattle.regatta_scores.specs.RaceLaws.{points_of_places}
use Rattle.regatta_scores.specs.RankLaws.{IsLowerAtFirst, cell_points, counting_points, comes_first}

-- a scorer's working, for each race: the finishing order, in groups of tied boats; the DNF score
-- and 20% of it, in whole points; each boat's score for her place or code, and with penalties
pub record Working : Type 0 where
  pub order : ℕ → List (List Sail)
  pub dnf : ℕ → ℕ
  pub twenty_percent : ℕ → ℕ
  pub base : ℕ → Sail → ℕ
  pub plain : ℕ → Sail → ℕ

-- one group for each time, the lowest first, of all boats that have it
pub record IsByTimes (times : List (CorrectedTime Sail)) (order : List (List Sail)) : Type 0 where
  pub seconds : List ℕ
  pub rising : AllPairs (λ s t. s < t) seconds
  pub each : (s : ℕ) → Contains seconds s ↔ Contains (map (λ t. t.seconds) times) s
  pub groups : order
      ≡ map (λ s. map (λ t. t.boat) (filter (λ t. nat_eq t.seconds s) times)) seconds

-- a total divided into equal parts, to the nearest whole number, one half upward
pub record IsNearest (total parts nearest : ℕ) : Type 0 where
  pub not_above : 2 * parts * nearest ≤ 2 * total + parts
  pub not_below : 2 * total < 2 * parts * nearest + parts

-- whether an average replaces her points
abbrev pub is_average : Option Redress → Bool
is_average (Some AllRaces) = true
is_average (Some RacesBefore) = true
is_average _ = false

-- the average of these scores to the nearest tenth, 0.05 upward; without any, another score (own)
pub record IsAverage (scores : List ℕ) (otherwise average : ℕ) : Type 0 where
  pub of_none : length scores ≡ 0 → average ≡ otherwise
  pub of_some : 0 < length scores → IsNearest (sum scores) (length scores) average

-- the same scores, listed from best to worst
pub record IsBestToWorst (scores listed : List ℕ) : Type 0 where
  pub same : IsPermutation scores listed
  pub rising : IsNonDecreasing listed

-- listed from best to worst, the first scores are better at the first difference
pub record WinsBestToWorst (hers other : List ℕ) : Type 0 where
  pub list : List ℕ
  pub other_list : List ℕ
  pub is_list : IsBestToWorst hers list
  pub is_other : IsBestToWorst other other_list
  pub better : IsLowerAtFirst list other_list

-- the lowest series score wins (A2.1). If series scores are equal, the first difference from best
-- to worst decides, without excluded scores (A8.1). If both have the same scores, the first
-- difference from the last race back decides, excluded scores included (A8.2)
abbrev pub Wins : Row → Row → Type 0
Wins a b =
    (a.net < b.net)
    ⊎ ((a.net ≡ b.net) × WinsBestToWorst (counting_points a.cells) (counting_points b.cells))
    ⊎ ((a.net ≡ b.net) × IsPermutation (counting_points a.cells) (counting_points b.cells)
    × IsLowerAtFirst (reverse (cell_points a.cells)) (reverse (cell_points b.cells)))

module _ (rules : RulesParts) (journal : Journal) where
  -- how she is scored: by her code; else as finished if she is in the order; else as DNC (own)
  abbrev pub scored_as : Working → ℕ → Sail → Status
  scored_as w race boat =
      status_by (held journal race boat).code (stands_in same_sail boat (w.order race))

  -- the boats of a group that finished: those with a code take no place
  abbrev pub placed : ℕ → List Sail → List Sail
  placed race group = filter (λ boat. is_none (held journal race boat).code) group

  pub record IsRaceScored (w : Working) (race : ℕ) : Type 0 where
    -- A3: boats are placed in the order in which they finish
    pub a3_finish : rules.handicap ≡ false → w.order race ≡ fold order_after [] (acts journal race)
    -- A3: or by corrected time if a handicap or rating system is used, the lowest first
    pub a3_time : rules.handicap ≡ true →
        IsByTimes (lasting_times (acts journal race)) (w.order race)
    -- A5.2: the DNF score is the points for the place one more than the number of boats entered
    pub a5_2 : rules.absent ≡ A52 → w.dnf race ≡ length (entered journal) + 1
    -- A5.3: or one more than the number of boats that came to the starting area
    pub a5_3 : rules.absent ≡ A53 →
        w.dnf race ≡ count_by (λ boat. came (scored_as w race boat)) (entered journal) + 1
    -- A4: 1 point for first place, 2 for second, and so on. A6.1: her place is one more than the
    -- number of boats ahead that finished. A7: boats tied for a place share equally the points for
    -- it and for the places immediately below
    pub a4_a7 : (ahead behind : List (List Sail)) (group : List Sail) →
        w.order race ≡ ahead ++ group ∷ behind →
        let place = 1 + length (flat_map (placed race) ahead) in
        let tied = placed race group in
        All (λ boat. length tied * w.base race boat ≡ points_of_places place (length tied)) tied
    -- A5.2, A5.3: a boat that did not come scores one more than the number of boats entered
    pub dnc : (boat : Sail) → scored_as w race boat ≡ Coded Dnc →
        w.base race boat ≡ 10 * (length (entered journal) + 1)
    -- A5.2, A5.3: a boat that came and has a code scores the DNF score
    pub coded : (boat : Sail) (code : Code) → scored_as w race boat ≡ Coded code → code ≢ Dnc →
        w.base race boat ≡ 10 * w.dnf race
    -- 44.3(c): 20% of the DNF score, to the nearest whole number, 0.5 upward
    pub nearest : IsNearest (20 * w.dnf race) 100 (w.twenty_percent race)
    -- 44.3(c), 30.2: each SCP adds the stated amount or else 20%, each ZFP 20%, up to the DNF score
    pub penalties : (boat : Sail) → w.base race boat < 10 * w.dnf race →
        let hers = held journal race boat in
        let points = hers.zfp * w.twenty_percent race
        + hers.scp * unwrap_or rules.scp (w.twenty_percent race) in
        w.plain race boat ≡ min (w.base race boat + 10 * points) (10 * w.dnf race)
    -- (own) a score that is no better than the DNF score is not changed
    pub no_better : (boat : Sail) → 10 * w.dnf race ≤ w.base race boat →
        w.plain race boat ≡ w.base race boat

  -- her races that count, each with her cell
  abbrev pub cells_of : Row → List (ℕ × Cell)
  cells_of row = zip (scored journal) row.cells

  -- her redress in the race, and whether her score there can be excluded
  abbrev pub redress : Row → ℕ → Option Redress
  redress row race = (held journal race row.sail).redress

  abbrev pub is_excludable : Row → ℕ → Bool
  is_excludable row race = not (is_dne (held journal race row.sail).code)

  -- her points in those races that pass a test, without those in which she has an average (own)
  abbrev pub own_points : Row → (ℕ → Bool) → List ℕ
  own_points row test =
      map (λ r. r.1.points)
      (filter (λ r. test r.0 && not (is_average (redress row r.0))) (cells_of row))

  pub record IsCellOf (w : Working) (row : Row) (race : ℕ) (cell : Cell) : Type 0 where
    -- without redress her points are those for her place or code, with penalties
    pub unredressed : redress row race ≡ None → cell.points ≡ w.plain race row.sail
    -- A9(a): redress as the average of her points in all other races
    pub a9_a : redress row race ≡ Some AllRaces →
        IsAverage (own_points row (λ other. not (nat_eq other race))) (w.plain race row.sail)
        cell.points
    -- A9(b): or in all races before it
    pub a9_b : redress row race ≡ Some RacesBefore →
        IsAverage (own_points row (λ other. nat_lt other race)) (w.plain race row.sail) cell.points
    -- A9(c): or points for her position at the time of the incident
    pub a9_c : (points : ℕ) → redress row race ≡ Some (Points points) → cell.points ≡ points
    -- A10: the abbreviation
    pub a10 : let hers = held journal race row.sail in
        cell.mark ≡ mark_by hers.redress (scored_as w race row.sail) hers.zfp hers.scp
    -- 90.3(b): a DNE is always included
    pub dne_counts : is_excludable row race ≡ false → cell.dropped ≡ false

  pub record IsRowOf (w : Working) (row : Row) : Type 0 where
    -- A2.2: she is scored in each race that counts
    pub a2_2 : length row.cells ≡ length (scored journal)
    pub cells : (race : ℕ) (cell : Cell) → Contains (cells_of row) (race, cell) →
        IsCellOf w row race cell
    -- A2.1: as many scores are excluded as the rules of the series say, or all that may be
    pub as_many : count_by (λ cell. cell.dropped) row.cells
        ≡ min (exclusions_of rules.thresholds (length (scored journal)))
        (count_by (is_excludable row) (scored journal))
    -- A2.1: an excluded score is worse than each excludable one that counts, or equal and earlier
    pub worst : (race other : ℕ) (cell kept : Cell) → Contains (cells_of row) (race, cell) →
        Contains (cells_of row) (other, kept) → cell.dropped ≡ true → kept.dropped ≡ false →
        is_excludable row other ≡ true →
        (kept.points < cell.points) ⊎ ((kept.points ≡ cell.points) × (race < other))
    -- A2.1: the series score is the total of the scores that are not excluded
    pub total : row.net ≡ sum (counting_points row.cells)

  pub record IsAppendixA (table : Standing) : Type 0 where
    -- the table has the races that count, in order (own)
    pub races : table.races ≡ scored journal
    -- A2.2: each boat entered has one row
    pub entries : IsPermutation (entered journal) (map (λ row. row.sail) table.rows)
    pub working : Working
    pub scores : (race : ℕ) → IsRaceScored working race
    pub rows : All (IsRowOf working) table.rows
    -- A2.1, A8: a boat ranks ahead of another if and only if she wins
    pub a8 : (a b : Row) → Contains table.rows a → Contains table.rows b →
        (a.rank < b.rank) ↔ Wins a b
    -- her rank is one more than the number of boats that rank ahead of her (own)
    pub rank : All (λ a. a.rank ≡ 1 + count_by (λ b. nat_lt b.rank a.rank) table.rows) table.rows
    -- she is tied if and only if another boat has her rank (own)
    pub tied : All (λ a. (a.tied ≡ true)
        ↔ (1 < count_by (λ b. nat_eq b.rank a.rank) table.rows)) table.rows
    -- the rows are in order of rank, then of sail (own)
    pub in_order : AllPairs (λ a b. comes_first a b ≡ true) table.rows
