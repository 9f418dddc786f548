-- That no sentence of Appendix A follows from the others: the sentences again, each asked for or not.
use Rattle.std.specs.Prelude.{⊤}
use Rattle.std.specs.Prelude.{◌≡◌, ◌≢◌, ◌↔◌, ◌⊎◌, ℕ, ◌+◌, ◌*◌, ◌<◌, ◌≤◌, min, Bool, true, false}
use Rattle.std.specs.Prelude.{not, nat_eq, nat_lt, List, [], ◌∷◌, ◌++◌, length, map}
use Rattle.std.specs.Prelude.{flat_map, sum, count_by, All, AllPairs, Contains, Some}
use Rattle.std.specs.Prelude.{None, unwrap_or, IsPermutation, fold}
use Rattle.regatta_terms.specs.Rules.{RulesParts, exclusions_of}
use Rattle.regatta_terms.specs.declared.rules.Absent.TheVariants.{A52, A53}
use Rattle.regatta_terms.specs.declared.sail.Sail.{Sail}
use Rattle.regatta_terms.specs.declared.command.Code.{Code}
use Rattle.regatta_terms.specs.declared.command.Code.TheVariants.{Dnc}
use Rattle.regatta_terms.specs.declared.command.Redress.TheVariants.{Points, AllRaces, RacesBefore}
use Rattle.regatta_scores.specs.declared.table.Cell.{Cell}
use Rattle.regatta_scores.specs.declared.table.Row.{Row}
use Rattle.regatta_scores.specs.declared.table.Standing.{Standing}
use Rattle.regatta_scores.specs.Journal.{Journal, entered, scored, acts, order_after}
use Rattle.regatta_scores.specs.Journal.{lasting_times, held}
use Rattle.regatta_scores.specs.Marks.{mark_by}
use Rattle.regatta_scores.specs.RacePoints.{Coded, came}
use Rattle.regatta_scores.specs.RaceLaws.{points_of_places}
use Rattle.regatta_scores.specs.RankLaws.{counting_points, comes_first}
use Rattle.regatta_scores.specs.AppendixA.{Working, IsByTimes, IsNearest, IsAverage, Wins}
use Rattle.regatta_scores.specs.AppendixA.{scored_as, placed, redress, is_excludable, own_points}
use Rattle.regatta_scores.specs.AppendixA.{cells_of, IsAppendixA}
use Rattle.regatta_scores.specs.Standing.{standing}

-- which sentences are asked for
pub record Sentences : Type 0 where
  pub a3_finish : Bool
  pub a3_time : Bool
  pub a5_2 : Bool
  pub a5_3 : Bool
  pub a4_a7 : Bool
  pub dnc : Bool
  pub coded : Bool
  pub nearest : Bool
  pub penalties : Bool
  pub no_better : Bool
  pub unredressed : Bool
  pub a9_a : Bool
  pub a9_b : Bool
  pub a9_c : Bool
  pub a10 : Bool
  pub dne_counts : Bool
  pub a2_2 : Bool
  pub as_many : Bool
  pub worst : Bool
  pub total : Bool
  pub races : Bool
  pub entries : Bool
  pub a8 : Bool
  pub rank : Bool
  pub tied : Bool
  pub in_order : Bool

abbrev pub all : Sentences
all = record {
  a3_finish = true;
  a3_time = true;
  a5_2 = true;
  a5_3 = true;
  a4_a7 = true;
  dnc = true;
  coded = true;
  nearest = true;
  penalties = true;
  no_better = true;
  unredressed = true;
  a9_a = true;
  a9_b = true;
  a9_c = true;
  a10 = true;
  dne_counts = true;
  a2_2 = true;
  as_many = true;
  worst = true;
  total = true;
  races = true;
  entries = true;
  a8 = true;
  rank = true;
  tied = true;
  in_order = true;
}

-- a sentence that holds if it is asked for
abbrev pub Asked : Bool → Type 0 → Type 0
Asked true sentence = sentence
Asked false sentence = ⊤

module _ (asked : Sentences) (rules : RulesParts) (journal : Journal) where
  pub record IsRaceScoredBy (w : Working) (race : ℕ) : Type 0 where
    pub a3_finish : Asked asked.a3_finish (rules.handicap ≡ false → w.order race ≡ fold
        order_after [] (acts journal race))
    pub a3_time : Asked asked.a3_time (rules.handicap ≡ true → IsByTimes (lasting_times (acts
        journal race)) (w.order race))
    pub a5_2 : Asked asked.a5_2 (rules.absent ≡ A52 → w.dnf race ≡ length (entered journal) + 1)
    pub a5_3 : Asked asked.a5_3 (rules.absent ≡ A53 → w.dnf race ≡ count_by (λ boat. came
        (scored_as rules journal w race boat)) (entered journal) + 1)
    pub a4_a7 : Asked asked.a4_a7 ((ahead behind : List (List Sail)) (group : List Sail) → w.order
        race ≡ ahead ++ group ∷ behind → let place = 1 + length (flat_map (placed rules journal
        race) ahead) in let tied = placed rules journal race group in All (λ boat. length tied *
        w.base race boat ≡ points_of_places place (length tied)) tied)
    pub dnc : Asked asked.dnc ((boat : Sail) → scored_as rules journal w race boat ≡ Coded Dnc →
        w.base race boat ≡ 10 * (length (entered journal) + 1))
    pub coded : Asked asked.coded ((boat : Sail) (code : Code) → scored_as rules journal w race
        boat ≡ Coded code → code ≢ Dnc → w.base race boat ≡ 10 * w.dnf race)
    pub nearest : Asked asked.nearest (IsNearest (20 * w.dnf race) 100 (w.twenty_percent race))
    pub penalties : Asked asked.penalties ((boat : Sail) → w.base race boat < 10 * w.dnf race →
        let hers = held journal race boat in let points = hers.zfp * w.twenty_percent race +
        hers.scp * unwrap_or rules.scp (w.twenty_percent race) in w.plain race boat ≡ min (w.base
        race boat + 10 * points) (10 * w.dnf race))
    pub no_better : Asked asked.no_better ((boat : Sail) → 10 * w.dnf race ≤ w.base race boat →
        w.plain race boat ≡ w.base race boat)

  pub record IsCellBy (w : Working) (row : Row) (race : ℕ) (cell : Cell) : Type 0 where
    pub unredressed : Asked asked.unredressed (redress rules journal row race ≡ None → cell.points
        ≡ w.plain race row.sail)
    pub a9_a : Asked asked.a9_a (redress rules journal row race ≡ Some AllRaces → IsAverage
        (own_points rules journal row (λ other. not (nat_eq other race))) (w.plain race row.sail)
        cell.points)
    pub a9_b : Asked asked.a9_b (redress rules journal row race ≡ Some RacesBefore → IsAverage
        (own_points rules journal row (λ other. nat_lt other race)) (w.plain race row.sail)
        cell.points)
    pub a9_c : Asked asked.a9_c ((points : ℕ) → redress rules journal row race ≡ Some (Points
        points) → cell.points ≡ points)
    pub a10 : Asked asked.a10 (let hers = held journal race row.sail in cell.mark ≡ mark_by
        hers.redress (scored_as rules journal w race row.sail) hers.zfp hers.scp)
    pub dne_counts : Asked asked.dne_counts (is_excludable rules journal row race ≡ false →
        cell.dropped ≡ false)

  pub record IsRowBy (w : Working) (row : Row) : Type 0 where
    pub a2_2 : Asked asked.a2_2 (length row.cells ≡ length (scored journal))
    pub cells : (race : ℕ) (cell : Cell) → Contains (cells_of rules journal row) (race, cell) →
        IsCellBy w row race cell
    pub as_many : Asked asked.as_many (count_by (λ cell. cell.dropped) row.cells ≡ min
        (exclusions_of rules.thresholds (length (scored journal))) (count_by (is_excludable rules
        journal row) (scored journal)))
    pub worst : Asked asked.worst ((race other : ℕ) (cell kept : Cell) → Contains (cells_of rules
        journal row) (race, cell) → Contains (cells_of rules journal row) (other, kept) →
        cell.dropped ≡ true → kept.dropped ≡ false → is_excludable rules journal row other ≡ true
        → (kept.points < cell.points) ⊎ ((kept.points ≡ cell.points) × (race < other)))
    pub total : Asked asked.total (row.net ≡ sum (counting_points row.cells))

  pub record FitsBy (table : Standing) : Type 0 where
    pub races : Asked asked.races (table.races ≡ scored journal)
    pub entries : Asked asked.entries (IsPermutation (entered journal) (map (λ row. row.sail)
        table.rows))
    pub working : Working
    pub scores : (race : ℕ) → IsRaceScoredBy working race
    pub rows : All (IsRowBy working) table.rows
    pub a8 : Asked asked.a8 ((a b : Row) → Contains table.rows a → Contains table.rows b → (a.rank
        < b.rank) ↔ Wins a b)
    pub rank : Asked asked.rank (All (λ a. a.rank ≡ 1 + count_by (λ b. nat_lt b.rank a.rank)
        table.rows) table.rows)
    pub tied : Asked asked.tied (All (λ a. (a.tied ≡ true) ↔ (1 < count_by (λ b. nat_eq b.rank
        a.rank) table.rows)) table.rows)
    pub in_order : Asked asked.in_order (AllPairs (λ a b. comes_first a b ≡ true) table.rows)

-- With all sentences asked for, these are the sentences of Appendix A.
abbrev pub AllIsAppendixA : Type 0
AllIsAppendixA = (rules : RulesParts) (journal : Journal) (table : Standing) →
    FitsBy all rules journal table ↔ IsAppendixA rules journal table

-- a table that fits the sentences asked for, and isn't the standing
pub record FitsToo (asked : Sentences) : Type 0 where
  pub rules : RulesParts
  pub journal : Journal
  pub table : Standing
  pub fits : FitsBy asked rules journal table
  pub other : table ≢ standing rules journal

-- Without any one of them, another table fits.
pub record EachIsNeeded : Type 0 where
  pub a3_finish : FitsToo (record all { a3_finish = false })
  pub a3_time : FitsToo (record all { a3_time = false })
  pub a5_2 : FitsToo (record all { a5_2 = false })
  pub a5_3 : FitsToo (record all { a5_3 = false })
  pub a4_a7 : FitsToo (record all { a4_a7 = false })
  pub dnc : FitsToo (record all { dnc = false })
  pub coded : FitsToo (record all { coded = false })
  pub nearest : FitsToo (record all { nearest = false })
  pub penalties : FitsToo (record all { penalties = false })
  pub no_better : FitsToo (record all { no_better = false })
  pub unredressed : FitsToo (record all { unredressed = false })
  pub a9_a : FitsToo (record all { a9_a = false })
  pub a9_b : FitsToo (record all { a9_b = false })
  pub a9_c : FitsToo (record all { a9_c = false })
  pub a10 : FitsToo (record all { a10 = false })
  pub dne_counts : FitsToo (record all { dne_counts = false })
  pub a2_2 : FitsToo (record all { a2_2 = false })
  pub as_many : FitsToo (record all { as_many = false })
  pub worst : FitsToo (record all { worst = false })
  pub total : FitsToo (record all { total = false })
  pub races : FitsToo (record all { races = false })
  pub entries : FitsToo (record all { entries = false })
  pub a8 : FitsToo (record all { a8 = false })
  pub rank : FitsToo (record all { rank = false })
  pub tied : FitsToo (record all { tied = false })
  pub in_order : FitsToo (record all { in_order = false })
