-- At most one table fits the sentences of Appendix A.
use Rattle.std.proofs.Common.{◌≡◌, ℕ, ◌+◌, ◌<◌, Bool, true, ◌⊎◌, ◌↔◌, List, refl, ap, ◌∙◌, sym, subst}
use Rattle.std.proofs.Common.{arith, map, reverse, count_by, nat_lt, nat_eq, Contains}
use Rattle.std.proofs.Common.{IsPermutation, cond}
use Rattle.std.proofs.lemmas.List.Sorted.{IsPermutation-sym, IsPermutation-trans}
use Rattle.std.proofs.lemmas.List.Sorted.{Contains-permutation, sum_by-IsPermutation}
use Rattle.std.specs.Ordering.{nat_cmp, ordering_then, ordering_reverse, is_le}
use Rattle.std.specs.declared.cmp.Ordering.{Ordering}
use Rattle.std.specs.declared.cmp.Ordering.TheVariants.{Less, Equal, Greater}
use Rattle.std.specs.Cmp.{IsTotalOrder, on_total, then_total, nat_cmp_total, tied_itself, both_ways}
use Rattle.std.specs.Cmp.Lexicographic.{slice_cmp, nat_list_cmp_total}
use Rattle.std.specs.FinMap.{nat_cmp-IsAntisymmetric, slice_cmp-IsAntisymmetric}
use Rattle.regatta_terms.specs.Rules.{RulesParts}
use Rattle.regatta_terms.specs.declared.sail.Sail.{Sail}
use Rattle.regatta_scores.specs.declared.table.Cell.{Cell}
use Rattle.regatta_scores.specs.declared.table.Row.{Row}
use Rattle.regatta_scores.specs.declared.table.Standing.{Standing}
use Rattle.regatta_scores.specs.Journal.{Journal, entered}
use Rattle.regatta_scores.specs.RankLaws.{IsLowerAtFirst, cell_points, counting_points}
use Rattle.regatta_scores.specs.AppendixA.{Wins, WinsBestToWorst, IsRowOf, IsAppendixA}
use Rattle.regatta_scores.specs.AppendixLaws.{AtMostOneFits}
use Rattle.regatta_scores.proofs.Counts.{count_by-map}
use Rattle.regatta_scores.proofs.Members.{all_at, lt_same}
use Rattle.regatta_scores.proofs.Ties.{both_equal}
use Rattle.regatta_scores.proofs.SameLists.{same_by_key, count_matched, permuted_rows, pairs_map}
use Rattle.regatta_scores.proofs.SameLists.{sorted_alike}
use Rattle.regatta_scores.proofs.SameRaces.{same_order, same_plain}
use Rattle.regatta_scores.proofs.SameRows.{with_sail, cells_equal, nets_equal}

-- ---- who wins, by series scores and cells

abbrev WinsBy : ℕ → ℕ → List Cell → List Cell → Type 0
WinsBy n m cs ds =
    (n < m) ⊎ ((n ≡ m) × WinsBestToWorst (counting_points cs) (counting_points ds))
    ⊎ ((n ≡ m) × IsPermutation (counting_points cs) (counting_points ds)
    × IsLowerAtFirst (reverse (cell_points cs)) (reverse (cell_points ds)))

wins_same : (a b x y : Row) → a.cells ≡ x.cells → a.net ≡ x.net → b.cells ≡ y.cells →
    b.net ≡ y.net → Wins a b → Wins x y
wins_same a b x y cells_a net_a cells_b net_b wins =
    subst (λ n. WinsBy n y.net x.cells y.cells) net_a
    (subst (λ m. WinsBy a.net m x.cells y.cells) net_b
    (subst (λ cs. WinsBy a.net b.net cs y.cells) cells_a
    (subst (λ ds. WinsBy a.net b.net a.cells ds) cells_b wins)))

-- ---- the order of rows

abbrev Key : Type 0
Key = ℕ × Sail

key : Row → Key
key row = (row.rank, row.sail)

key_cmp : Key → Key → Ordering
key_cmp k l = ordering_then (nat_cmp k.0 l.0) (slice_cmp nat_cmp k.1 l.1)

key_first : Key → Key → Bool
unfolding key_cmp
key_first k l = is_le (key_cmp k l)

key_cmp_total : IsTotalOrder key_cmp
unfolding key_cmp
key_cmp_total =
    then_total (on_total (λ (k : Key). k.0) nat_cmp_total)
    (on_total (λ (k : Key). k.1) nat_list_cmp_total)

neither_first : (r : Ordering) → is_le r ≡ true → is_le (ordering_reverse r) ≡ true → r ≡ Equal
neither_first Less e f = cc
neither_first Equal e f = refl
neither_first Greater e f = cc

key_itself : (k : Key) → key_first k k ≡ true
unfolding key_first
key_itself k = ap is_le (tied_itself key_cmp_total k)

key_one : (k l : Key) → key_first k l ≡ true → key_first l k ≡ true → k ≡ l
unfolding key_cmp key_first
key_one k l e f =
    let equal = neither_first (key_cmp k l) e (sym (ap is_le (key_cmp_total.antisymm l k)) ∙ f) in
    let parts = both_equal (nat_cmp k.0 l.0) (slice_cmp nat_cmp k.1 l.1) equal in
    let ranks = nat_cmp-IsAntisymmetric k.0 l.0 parts.0 in
    let sails = slice_cmp-IsAntisymmetric nat_cmp-IsAntisymmetric k.1 l.1 parts.1 in
    λ i. (ranks i, sails i)

-- ---- two tables

module _ (rules : RulesParts) (journal : Journal) (t u : Standing)
    (p : IsAppendixA rules journal t) (q : IsAppendixA rules journal u) where
  plains : (race : ℕ) (boat : Sail) → p.working.plain race boat ≡ q.working.plain race boat
  plains race =
      same_plain rules journal race p.working q.working (p.scores race) (q.scores race)

  orders : (race : ℕ) → p.working.order race ≡ q.working.order race
  orders race =
      same_order rules journal race p.working q.working (p.scores race) (q.scores race)

  data_same : (a x : Row) → Contains t.rows a → Contains u.rows x → a.sail ≡ x.sail →
      (a.cells ≡ x.cells) × (a.net ≡ x.net)
  data_same a x has_a has_x same =
      let is_a = all_at (IsRowOf rules journal p.working) t.rows a p.rows has_a in
      let is_x = subst (λ s. IsRowOf rules journal q.working (with_sail s x)) (sym same)
      (all_at (IsRowOf rules journal q.working) u.rows x q.rows has_x) in (
        cells_equal rules journal p.working q.working a x orders plains is_a is_x,
        nets_equal rules journal p.working q.working a x orders plains is_a is_x,
      )

  below_same : (a b x y : Row) → Contains t.rows a → Contains t.rows b → Contains u.rows x →
      Contains u.rows y → a.sail ≡ x.sail → b.sail ≡ y.sail →
      nat_lt b.rank a.rank ≡ nat_lt y.rank x.rank
  below_same a b x y has_a has_b has_x has_y same_a same_b =
      let data_a = data_same a x has_a has_x same_a in
      let data_b = data_same b y has_b has_y same_b in
      lt_same b.rank a.rank y.rank x.rank
      (λ h. (q.a8 y x has_y has_x).1
      (wins_same b a y x data_b.0 data_b.1 data_a.0 data_a.1 ((p.a8 b a has_b has_a).0 h)))
      (λ h. (p.a8 b a has_b has_a).1
      (wins_same y x b a (sym data_b.0) (sym data_b.1) (sym data_a.0) (sym data_a.1)
      ((q.a8 y x has_y has_x).0 h)))

  -- the rows of the second table, in the order of the boats of the first
  moved : (rows : List Row) × IsPermutation u.rows rows
      × (map (λ (r : Row). r.sail) rows ≡ map (λ (r : Row). r.sail) t.rows)
  moved =
      permuted_rows (λ (r : Row). r.sail) u.rows (map (λ (r : Row). r.sail) t.rows)
      (IsPermutation-trans (map (λ (r : Row). r.sail) u.rows) (entered journal)
      (map (λ (r : Row). r.sail) t.rows)
      (IsPermutation-sym (entered journal) (map (λ (r : Row). r.sail) u.rows) q.entries)
      p.entries)

  in_second : (y : Row) → Contains moved.0 y → Contains u.rows y
  in_second y has =
      Contains-permutation moved.0 u.rows y (IsPermutation-sym u.rows moved.0 moved.1) has

  count_same : (f g : Row → Bool) → ((b y : Row) → Contains t.rows b → Contains u.rows y →
      b.sail ≡ y.sail → f b ≡ g y) → count_by f t.rows ≡ count_by g u.rows
  count_same f g each =
      count_matched (λ (r : Row). r.sail) f g t.rows moved.0 (sym moved.2)
      (λ b y has_b has_y same. each b y has_b (in_second y has_y) same)
      ∙ sum_by-IsPermutation (λ r. cond (g r) 1 0) u.rows moved.0 moved.1

  rank_same : (a x : Row) → Contains t.rows a → Contains u.rows x → a.sail ≡ x.sail →
      a.rank ≡ x.rank
  rank_same a x has_a has_x same =
      all_at (λ a. a.rank ≡ 1 + count_by (λ b. nat_lt b.rank a.rank) t.rows) t.rows a p.rank has_a
      ∙ ap (λ n. 1 + n) (count_same (λ b. nat_lt b.rank a.rank) (λ y. nat_lt y.rank x.rank)
      (λ b y has_b has_y same_b. below_same a b x y has_a has_b has_x has_y same same_b))
      ∙ sym (all_at (λ a. a.rank ≡ 1 + count_by (λ b. nat_lt b.rank a.rank) u.rows) u.rows x
      q.rank has_x)

  tied_same : (a x : Row) → Contains t.rows a → Contains u.rows x → a.sail ≡ x.sail →
      a.tied ≡ x.tied
  tied_same a x has_a has_x same =
      let many = count_same (λ b. nat_eq b.rank a.rank) (λ y. nat_eq y.rank x.rank)
      (λ b y has_b has_y same_b. (λ i. nat_eq (rank_same b y has_b has_y same_b i)
      (rank_same a x has_a has_x same i))) in
      let is_a = all_at (λ a. (a.tied ≡ true)
      ↔ (1 < count_by (λ b. nat_eq b.rank a.rank) t.rows)) t.rows a p.tied has_a in
      let is_x = all_at (λ a. (a.tied ≡ true)
      ↔ (1 < count_by (λ b. nat_eq b.rank a.rank) u.rows)) u.rows x q.tied has_x in
      both_ways a.tied x.tied
      (λ e. let more = is_a.0 e in is_x.1 (omega (arith, more, many)))
      (λ e. let more = is_x.0 e in is_a.1 (omega (arith, more, many)))

  same_row : (a x : Row) → Contains t.rows a → Contains u.rows x → a.sail ≡ x.sail → a ≡ x
  same_row a x has_a has_x same =
      let same_data = data_same a x has_a has_x same in
      let ranks = rank_same a x has_a has_x same in
      let ties = tied_same a x has_a has_x same in
      λ i. record {
        sail = same i;
        rank = ranks i;
        tied = ties i;
        net = same_data.1 i;
        cells = same_data.0 i;
      }

  counts : (f : Row → Bool) → count_by f t.rows ≡ count_by f u.rows
  counts f =
      count_same f f (λ b y has_b has_y same. ap f (same_row b y has_b has_y same))

  rows_same : t.rows ≡ u.rows
  unfolding key key_cmp key_first
  rows_same =
      let keys : map key t.rows ≡ map key u.rows =
      sorted_alike key_first key_itself key_one (map key t.rows) (map key u.rows)
      (pairs_map key (λ k l. key_first k l ≡ true) t.rows p.in_order)
      (pairs_map key (λ k l. key_first k l ≡ true) u.rows q.in_order)
      (λ f. count_by-map f key t.rows ∙ counts (λ r. f (key r)) ∙ sym (count_by-map f key u.rows)) in
      same_by_key key t.rows u.rows keys
      (λ a x has_a has_x same. same_row a x has_a has_x (ap (λ (k : Key). k.1) same))

  pub tables_same : t ≡ u
  tables_same = λ i. record { races = (p.races ∙ sym q.races) i; rows = rows_same i }

pub at_most_one_fits : AtMostOneFits
at_most_one_fits = tables_same
