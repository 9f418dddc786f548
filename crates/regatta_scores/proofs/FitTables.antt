-- The standing fits the sentences of Appendix A.
use Rattle.std.proofs.Common.{◌≡◌, ℕ, zero, suc, ◌+◌, ◌<◌, Bool, true, cond, ◌↔◌}
use Rattle.std.proofs.Common.{List, [], ◌∷◌, refl, ap, ◌∙◌, sym, subst, arith, length, map, get_or}
use Rattle.std.proofs.Common.{reverse, count_by, nat_lt, nat_le, nat_eq, All, AllPairs, Contains}
use Rattle.std.proofs.Common.{IsPermutation}
use mathlib.Core.Logic.{inl, inr}
use Rattle.std.specs.List.Sorted.{IsNonDecreasing}
use Rattle.std.specs.Ordering.{is_lt, ordering_reverse}
use Rattle.std.specs.declared.cmp.Ordering.{Ordering}
use Rattle.std.specs.declared.cmp.Ordering.TheVariants.{Less, Equal, Greater}
use Rattle.std.proofs.lemmas.List.Sorted.{IsPermutation-sym, IsPermutation-trans}
use Rattle.std.proofs.lemmas.List.Sorted.{Contains-permutation, sum_by-IsPermutation}
use borrow.Author.Tests.{ltb-true, lt-ltb, leb-true, le-leb}
use Rattle.regatta_terms.specs.Entries.{IsEntry}
use Rattle.regatta_terms.specs.Rules.{RulesParts}
use Rattle.regatta_terms.specs.declared.sail.Sail.{Sail}
use Rattle.regatta_scores.specs.declared.table.Row.{Row}
use Rattle.regatta_scores.specs.Exclusions.{counting}
use Rattle.regatta_scores.specs.Journal.{Journal, entered}
use Rattle.regatta_scores.specs.RaceLaws.{NobodyTwice}
use Rattle.regatta_scores.specs.RacePoints.{journal_race}
use Rattle.regatta_scores.specs.Ranking.{BoatScores, net, best_to_worst, comparison, beats}
use Rattle.regatta_scores.specs.Ranking.{rank}
use Rattle.regatta_scores.specs.Standing.{line, row, standing}
use Rattle.regatta_scores.specs.RankLaws.{IsLowerAtFirst, IsBetter, lines, cell_points}
use Rattle.regatta_scores.specs.RankLaws.{counting_points}
use Rattle.regatta_scores.specs.AppendixA.{IsBestToWorst, Wins, IsRowOf}
use Rattle.regatta_scores.specs.AppendixA.{IsAppendixA}
use Rattle.regatta_scores.specs.AppendixLaws.{OnlyTheStandingFits}
use Rattle.regatta_scores.proofs.AtLeastOne.{boats_beat_in_three_cases}
use Rattle.regatta_scores.proofs.Counts.{count_by-map}
use Rattle.regatta_scores.proofs.Members.{all_at, member_map, count_members}
use Rattle.regatta_scores.proofs.Ranked.{ranks_follow_each_other}
use Rattle.regatta_scores.proofs.Sorting.{counting_scores_rise}
use Rattle.regatta_scores.proofs.StandingRows.{standing_has_the_entered, her_cells}
use Rattle.regatta_scores.proofs.Ties.{comparison_total, better_ranks_lower, equal_lines, same_rank}
use Rattle.regatta_scores.proofs.SameLists.{sorted_alike}
use Rattle.regatta_scores.proofs.SameTables.{tables_same}
use Rattle.regatta_scores.proofs.FitRaces.{work, races_fit}
use Rattle.regatta_scores.proofs.FitRows.{row_fits}

-- ---- scores from best to worst

le_pairs : (xs : List ℕ) → IsNonDecreasing xs → AllPairs (λ a b. nat_le a b ≡ true) xs
le_pairs xs up i j d apart within =
    le-leb (get_or xs i d) (get_or xs j d) (up i j d (omega (arith, apart)) within)

le_itself : (n : ℕ) → nat_le n n ≡ true
le_itself n = le-leb n n (omega arith)

le_one : (m n : ℕ) → nat_le m n ≡ true → nat_le n m ≡ true → m ≡ n
le_one m n e f =
    let one = leb-true m n e in let two = leb-true n m f in omega (arith, one, two)

alike_counts : (xs ys : List ℕ) → IsPermutation xs ys → (p : ℕ → Bool) →
    count_by p xs ≡ count_by p ys
alike_counts xs ys moved p = sym (sum_by-IsPermutation (λ x. cond (p x) 1 0) xs ys moved)

-- two lists of the same scores from best to worst are one
pub sorted_one : (xs ys : List ℕ) → IsNonDecreasing xs → IsNonDecreasing ys → IsPermutation xs ys →
    xs ≡ ys
sorted_one xs ys up_x up_y moved =
    sorted_alike nat_le le_itself le_one xs ys (le_pairs xs up_x) (le_pairs ys up_y)
    (alike_counts xs ys moved)

module _ (a : BoatScores) where
  abbrev counts : List ℕ
  counts = counting a.points a.excluded

  best_rises : IsNonDecreasing (best_to_worst a)
  best_rises = (counting_scores_rise a).0

  best_moved : IsPermutation counts (best_to_worst a)
  best_moved = (counting_scores_rise a).1

  is_best : (scores listed : List ℕ) → scores ≡ counts → IsBestToWorst scores listed →
      listed ≡ best_to_worst a
  is_best scores listed same is =
      let from : IsPermutation counts listed =
      subst (λ xs. IsPermutation xs listed) same is.same in
      sorted_one listed (best_to_worst a) is.rising best_rises
      (IsPermutation-trans listed counts (best_to_worst a)
      (IsPermutation-sym counts listed from) best_moved)

  best_is : (scores : List ℕ) → scores ≡ counts → IsBestToWorst scores (best_to_worst a)
  best_is scores same = record {
    same = subst (λ xs. IsPermutation xs (best_to_worst a)) (sym same) best_moved;
    rising = best_rises;
  }

-- ---- who wins

module _ (a b : BoatScores) (x y : Row) (net_x : x.net ≡ net a) (net_y : y.net ≡ net b)
    (points_x : cell_points x.cells ≡ a.points) (points_y : cell_points y.cells ≡ b.points)
    (counts_x : counting_points x.cells ≡ counting a.points a.excluded)
    (counts_y : counting_points y.cells ≡ counting b.points b.excluded) where
  nets : net a ≡ net b → x.net ≡ y.net
  nets e = net_x ∙ e ∙ sym net_y

  nets_back : x.net ≡ y.net → net a ≡ net b
  nets_back e = sym net_x ∙ e ∙ net_y

  wins_if : IsBetter a b → Wins x y
  wins_if (inl lower) = inl (omega (arith, lower, net_x, net_y))
  wins_if (inr (inl case)) =
      inr (inl (
        nets case.0,
        record {
          list = best_to_worst a;
          other_list = best_to_worst b;
          is_list = best_is a (counting_points x.cells) counts_x;
          is_other = best_is b (counting_points y.cells) counts_y;
          better = case.1;
        },
      ))
  wins_if (inr (inr case)) =
      let moved_a = (best_is a (counting_points x.cells) counts_x).same in
      let moved_b = (best_is b (counting_points y.cells) counts_y).same in
      inr (inr (
        nets case.0,
        IsPermutation-trans (counting_points x.cells) (best_to_worst b) (counting_points y.cells)
            (subst (IsPermutation (counting_points x.cells)) case.1 moved_a)
            (IsPermutation-sym (counting_points y.cells) (best_to_worst b) moved_b),
        subst (λ ps. IsLowerAtFirst (reverse ps) (reverse (cell_points y.cells))) (sym points_x)
            (subst (λ ps. IsLowerAtFirst (reverse a.points) (reverse ps)) (sym points_y) case.2),
      ))

  better_if : Wins x y → IsBetter a b
  better_if (inl lower) = inl (omega (arith, lower, net_x, net_y))
  better_if (inr (inl case)) =
      let w = case.1 in
      let one = is_best a (counting_points x.cells) w.list counts_x w.is_list in
      let two = is_best b (counting_points y.cells) w.other_list counts_y w.is_other in
      inr (inl (
        nets_back case.0,
        subst (λ xs. IsLowerAtFirst xs (best_to_worst b)) one
            (subst (λ ys. IsLowerAtFirst w.list ys) two w.better),
      ))
  better_if (inr (inr case)) =
      let moved : IsPermutation (counting_points x.cells) (best_to_worst b) =
      IsPermutation-trans (counting_points x.cells) (counting_points y.cells) (best_to_worst b)
      case.1 (best_is b (counting_points y.cells) counts_y).same in
      inr (inr (
        nets_back case.0,
        sym (is_best a (counting_points x.cells) (best_to_worst b) counts_x
            (record { same = moved; rising = best_rises b })),
        subst (λ ps. IsLowerAtFirst (reverse ps) (reverse b.points)) points_x
            (subst (λ ps. IsLowerAtFirst (reverse (cell_points x.cells)) (reverse ps)) points_y
            case.2),
      ))

-- ---- ranks

Less-from : (r : Ordering) → is_lt r ≡ true → r ≡ Less
Less-from Less e = refl
Less-from Equal e = cc
Less-from Greater e = cc

-- a boat ranks ahead of another if and only if she beats her
ranks_by : (ls : List BoatScores) (a b : BoatScores) → Contains ls a → Contains ls b →
    (rank ls a < rank ls b) ↔ (beats a b ≡ true)
ranks_by ls a b has_a has_b = (
  λ lower. there (comparison a b) refl lower,
  λ e. better_ranks_lower ls a b has_a (Less-from (comparison a b) e),
)
  where
    there : (r : Ordering) → comparison a b ≡ r → rank ls a < rank ls b → beats a b ≡ true
    there Less e lower = ap is_lt e
    there Equal e lower =
        let same = equal_lines a b e in
        let equal = same_rank ls a b same.0 same.1 same.2 in
        absurd (omega (arith, equal, lower))
    there Greater e lower =
        let turned : comparison b a ≡ Less =
        comparison_total.antisymm b a ∙ ap ordering_reverse e in
        let higher = better_ranks_lower ls b a has_b turned in
        absurd (omega (arith, higher, lower))

-- ---- the table

module _ (rules : RulesParts) (journal : Journal) (each : All IsEntry journal)
    (once : (race : ℕ) → NobodyTwice (journal_race rules journal race)) where
  abbrev rows : List Row
  rows = (standing rules journal).rows

  abbrev all : List BoatScores
  all = lines rules journal

  abbrev line_of : Row → BoatScores
  line_of r = line rules journal r.sail

  is_hers : (r : Row) → Contains rows r → r ≡ row rules journal all r.sail
  is_hers r has =
      all_at (λ r. r ≡ row rules journal all r.sail) rows r
      (standing_has_the_entered rules journal).hers has

  in_all : (r : Row) → Contains rows r → Contains all (line_of r)
  in_all r has =
      member_map (line rules journal) (entered journal) r.sail
      (Contains-permutation (map (λ (x : Row). x.sail) rows) (entered journal) r.sail
      (IsPermutation-sym (entered journal) (map (λ (x : Row). x.sail) rows)
      (standing_has_the_entered rules journal).each_once)
      (member_map (λ (x : Row). x.sail) rows r has))

  rank_of : (r : Row) → Contains rows r → r.rank ≡ rank all (line_of r)
  rank_of r has = ap (λ (x : Row). x.rank) (is_hers r has)

  -- counts over the lines of all boats are counts over the rows
  counts_rows : (p : BoatScores → Bool) → count_by p all ≡ count_by (λ r. p (line_of r)) rows
  counts_rows p =
      let f = λ (boat : Sail). p (line rules journal boat) in
      count_by-map p (line rules journal) (entered journal)
      ∙ sym (sum_by-IsPermutation (λ boat. cond (f boat) 1 0) (entered journal)
      (map (λ (x : Row). x.sail) rows) (standing_has_the_entered rules journal).each_once)
      ∙ count_by-map f (λ (x : Row). x.sail) rows

  wins_by_line : (x y : Row) → Contains rows x → Contains rows y →
      (x.rank < y.rank) ↔ Wins x y
  wins_by_line x y has_x has_y =
      let is_x = is_hers x has_x in
      let is_y = is_hers y has_y in
      let cells_x = her_cells rules journal x.sail in
      let cells_y = her_cells rules journal y.sail in
      let points_x = ap (λ (r : Row). cell_points r.cells) is_x ∙ cells_x.0 in
      let points_y = ap (λ (r : Row). cell_points r.cells) is_y ∙ cells_y.0 in
      let counts_x = ap (λ (r : Row). counting_points r.cells) is_x ∙ cells_x.1 in
      let counts_y = ap (λ (r : Row). counting_points r.cells) is_y ∙ cells_y.1 in
      let net_x = ap (λ (r : Row). r.net) is_x in
      let net_y = ap (λ (r : Row). r.net) is_y in
      let rank_x = rank_of x has_x in
      let rank_y = rank_of y has_y in
      let by_rank = ranks_by all (line_of x) (line_of y) (in_all x has_x) (in_all y has_y) in
      let by_cases = boats_beat_in_three_cases rules journal each x.sail y.sail in (
        λ lower. wins_if (line_of x) (line_of y) x y net_x net_y points_x points_y counts_x
            counts_y (by_cases.0 (by_rank.0 (omega (arith, lower, rank_x, rank_y)))),
        λ wins. (let lower = by_rank.1 (by_cases.1 (better_if (line_of x) (line_of y) x y net_x
            net_y points_x points_y counts_x counts_y wins)) in omega (arith, lower, rank_x, rank_y)),
      )

  member : (k : ℕ) (d : Row) → k < length rows → Contains rows (get_or rows k d)
  member k d within = (k, within, default rows k d within)
    where
      default : (xs : List Row) (k : ℕ) (d : Row) → k < length xs →
          get_or xs k (get_or xs k d) ≡ get_or xs k d
      default [] k d within = refl
      default (x ∷ xs) zero d within = refl
      default (x ∷ xs) (suc k) d within = default xs k d (omega (arith, within))

  rank_counts : (r : Row) → Contains rows r →
      r.rank ≡ 1 + count_by (λ b. nat_lt b.rank r.rank) rows
  rank_counts r has =
      rank_of r has ∙ (ranks_follow_each_other all).above (line_of r) (in_all r has)
      ∙ ap (λ n. 1 + n) (counts_rows (λ other. nat_lt (rank all other) (rank all (line_of r)))
      ∙ count_members (λ b. nat_lt (rank all (line_of b)) (rank all (line_of r)))
      (λ b. nat_lt b.rank r.rank) rows
      (λ b there. (λ i. nat_lt (sym (rank_of b there) i) (sym (rank_of r has) i))))

  tied_counts : (r : Row) → Contains rows r →
      (r.tied ≡ true) ↔ (1 < count_by (λ b. nat_eq b.rank r.rank) rows)
  tied_counts r has =
      let sharers = count_by (λ other. nat_eq (rank all other) (rank all (line_of r))) all in
      let many : sharers ≡ count_by (λ b. nat_eq b.rank r.rank) rows =
      counts_rows (λ other. nat_eq (rank all other) (rank all (line_of r)))
      ∙ count_members (λ b. nat_eq (rank all (line_of b)) (rank all (line_of r)))
      (λ b. nat_eq b.rank r.rank) rows
      (λ b there. (λ i. nat_eq (sym (rank_of b there) i) (sym (rank_of r has) i))) in
      let is : r.tied ≡ nat_lt 1 sharers = ap (λ (x : Row). x.tied) (is_hers r has) in (
        λ e. (let more = ltb-true 1 sharers (sym is ∙ e) in omega (arith, more, many)),
        λ more. is ∙ lt-ltb 1 sharers (omega (arith, more, many)),
      )

  pub table_fits : IsAppendixA rules journal (standing rules journal)
  table_fits =
      let are = standing_has_the_entered rules journal in
      record {
        races = refl;
        entries = are.each_once;
        working = work rules journal;
        scores = races_fit rules journal once;
        rows = λ k d within. subst (IsRowOf rules journal (work rules journal))
            (sym (are.hers k d within))
            (row_fits rules journal all (get_or rows k d).sail);
        a8 = wins_by_line;
        rank = λ k d within. rank_counts (get_or rows k d) (member k d within);
        tied = λ k d within. tied_counts (get_or rows k d) (member k d within);
        in_order = are.in_order;
      }

pub only_the_standing_fits : OnlyTheStandingFits
only_the_standing_fits rules journal each once table = (
  λ fits. tables_same rules journal table (standing rules journal) fits
      (table_fits rules journal each once),
  λ same. subst (IsAppendixA rules journal) (sym same) (table_fits rules journal each once),
)
