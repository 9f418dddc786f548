-- Without one of the sentences of cells, rows and the table another table fits.
use Rattle.std.proofs.Common.{◌≡◌, ◌↔◌, ◌⊎◌, ℕ, ◌+◌, ◌<◌, Bool, true, false}
use Rattle.std.proofs.Common.{[], ◌∷◌, zip, refl, ap, ◌∙◌, sym, subst, arith, map, length, Contains}
use Rattle.std.proofs.Common.{get_or, count_by, sum_by, Some, nat_eq, nat_lt}
use mathlib.Core.Logic.{inl, inr}
use Rattle.std.proofs.lemmas.List.Elements.{All-from_recursion}
use Rattle.std.proofs.lemmas.List.Sorted.{IsPermutation-refl, IsPermutation-swap}
use Rattle.regatta_terms.specs.declared.command.Code.{Code}
use Rattle.regatta_terms.specs.declared.command.Code.TheVariants as code
use Rattle.regatta_terms.specs.declared.command.Redress as redress_type
use Rattle.regatta_terms.specs.declared.command.Redress.TheVariants.{Points, AllRaces, RacesBefore}
use Rattle.regatta_terms.specs.declared.command.Command.TheVariants.{Enter, Finish}
use Rattle.regatta_terms.specs.declared.command.Command.TheVariants.{Score}
use Rattle.regatta_scores.specs.declared.table.Abbrev.TheVariants as abbreviation
use Rattle.regatta_scores.specs.declared.table.Cell.{Cell}
use Rattle.regatta_scores.specs.declared.table.Row.{Row}
use Rattle.regatta_scores.specs.Journal.{Journal, scored, order}
use Rattle.regatta_scores.specs.RankLaws.{comes_first}
use Rattle.regatta_scores.specs.Standing.{standing}
use Rattle.regatta_scores.specs.AppendixA.{Working, cells_of, Wins}
use Rattle.regatta_scores.specs.Needed.{Sentences, all, FitsToo}
use Rattle.regatta_scores.specs.Needed.{IsRaceScoredBy, IsCellBy, IsRowBy}
use Rattle.regatta_scores.specs.WorkedStandings.{a, b, scorer, journal, default_rules}
use Rattle.regatta_scores.specs.WorkedStandings.{no_exclusions, plain, marked, coded, excluded, row, table}
use Rattle.regatta_scores.proofs.FitRaces.{capped, uncapped}
use Rattle.regatta_scores.proofs.Sorting.{pairs_cons}
use Rattle.regatta_scores.proofs.NeededTables.{given, in_each, wins_never, made, one_group, no_group, only, either}
use Rattle.regatta_scores.proofs.NeededTables.{made_fits, plain_cell, one_cell, one_row}
use Rattle.regatta_scores.proofs.NeededSeries.{finishes, redressed}
use Rattle.regatta_scores.proofs.NeededSeries.{code_and_finish, told_apart, nets, marks}
use Rattle.regatta_scores.proofs.NeededSeries.{Shares, first_alone, nobody, upto, usual, usual_fits}
use Rattle.regatta_scores.proofs.NeededSeries.{alone_too}

-- ---- cells

-- the usual scores of one boat that finishes race 1
module _ (asked : Sentences) where
  finishes_fits : (race : ℕ) →
      IsRaceScoredBy asked no_exclusions finishes (usual no_exclusions finishes) race
  finishes_fits =
      usual_fits asked no_exclusions finishes refl refl refl refl
      (one_group _ (a ∷ []) (first_alone ((usual no_exclusions finishes).base 1) refl)) (no_group _)
      (no_group _)

  redressed_fits : (how : redress_type.Redress) (race : ℕ) →
      IsRaceScoredBy asked no_exclusions (redressed how)
      (usual no_exclusions (redressed how)) race
  redressed_fits how =
      usual_fits asked no_exclusions (redressed how) refl refl refl refl
      (one_group _ (a ∷ []) (first_alone ((usual no_exclusions (redressed how)).base 1) refl)) (no_group _)
      (no_group _)

abbrev but_unredressed : Sentences
but_unredressed = record all { unredressed = false }

-- she scores 3 points for first place, without redress
pub unredressed_needed : FitsToo but_unredressed
unredressed_needed =
    let w = usual no_exclusions finishes in
    let c = plain 30 in
    alone_too but_unredressed no_exclusions finishes w c 30 refl refl
    (finishes_fits but_unredressed)
    (one_cell but_unredressed no_exclusions finishes w a 1 30 false c refl
    (plain_cell but_unredressed no_exclusions finishes w (row a 1 false 30 (c ∷ [])) 1 c
    refl tt refl (λ e. refl)) refl refl)
    (told_apart nets (table (1 ∷ []) (row a 1 false 30 (c ∷ []) ∷ []))
    (standing no_exclusions finishes) refl)

abbrev but_a9_a : Sentences
but_a9_a = record all { a9_a = false }

-- her average of no other race is 3 points, and not her score without redress
pub a9_a_needed : FitsToo but_a9_a
a9_a_needed =
    let done = redressed AllRaces in
    let w = usual no_exclusions done in
    let c = marked 30 abbreviation.Rdg in
    alone_too but_a9_a no_exclusions done w c 30 refl refl (redressed_fits but_a9_a AllRaces)
    (one_cell but_a9_a no_exclusions done w a 1 30 false c refl (record {
      unredressed = λ e. cc;
      a9_a = tt;
      a9_b = λ e. cc;
      a9_c = λ points e. cc;
      a10 = refl;
      dne_counts = λ e. refl;
    }) refl refl)
    (told_apart nets (table (1 ∷ []) (row a 1 false 30 (c ∷ []) ∷ []))
    (standing no_exclusions done) refl)

abbrev but_a9_b : Sentences
but_a9_b = record all { a9_b = false }

-- the same of the races before
pub a9_b_needed : FitsToo but_a9_b
a9_b_needed =
    let done = redressed RacesBefore in
    let w = usual no_exclusions done in
    let c = marked 30 abbreviation.Rdg in
    alone_too but_a9_b no_exclusions done w c 30 refl refl (redressed_fits but_a9_b RacesBefore)
    (one_cell but_a9_b no_exclusions done w a 1 30 false c refl (record {
      unredressed = λ e. cc;
      a9_a = λ e. cc;
      a9_b = tt;
      a9_c = λ points e. cc;
      a10 = refl;
      dne_counts = λ e. refl;
    }) refl refl)
    (told_apart nets (table (1 ∷ []) (row a 1 false 30 (c ∷ []) ∷ []))
    (standing no_exclusions done) refl)

abbrev but_a9_c : Sentences
but_a9_c = record all { a9_c = false }

-- she is given 2.5 points and scores 3
pub a9_c_needed : FitsToo but_a9_c
a9_c_needed =
    let done = redressed (Points 25) in
    let w = usual no_exclusions done in
    let c = marked 30 abbreviation.Rdg in
    alone_too but_a9_c no_exclusions done w c 30 refl refl (redressed_fits but_a9_c (Points 25))
    (one_cell but_a9_c no_exclusions done w a 1 30 false c refl (record {
      unredressed = λ e. cc;
      a9_a = λ e. cc;
      a9_b = λ e. cc;
      a9_c = tt;
      a10 = refl;
      dne_counts = λ e. refl;
    }) refl refl)
    (told_apart nets (table (1 ∷ []) (row a 1 false 30 (c ∷ []) ∷ []))
    (standing no_exclusions done) refl)

abbrev but_a10 : Sentences
but_a10 = record all { a10 = false }

-- a boat without a penalty is shown with ZFP
pub a10_needed : FitsToo but_a10
a10_needed =
    let w = usual no_exclusions finishes in
    let c = marked 10 abbreviation.Zfp in
    alone_too but_a10 no_exclusions finishes w c 10 refl refl (finishes_fits but_a10)
    (one_cell but_a10 no_exclusions finishes w a 1 10 false c refl
    (plain_cell but_a10 no_exclusions finishes w (row a 1 false 10 (c ∷ [])) 1 c
    refl refl tt (λ e. refl)) refl refl)
    (told_apart marks (table (1 ∷ []) (row a 1 false 10 (c ∷ []) ∷ []))
    (standing no_exclusions finishes) refl)

-- ---- rows of two cells

abbrev Is : ℕ × Cell → ℕ × Cell → Type 0
Is x y = x ≡ y

-- the usual scores of one boat that has a code in race 1 and finishes race 2
module _ (asked : Sentences) (c : Code) where
  abbrev two_done : Journal
  two_done = code_and_finish c

  two_fits : (race : ℕ) →
      IsRaceScoredBy asked default_rules two_done (usual default_rules two_done) race
  two_fits =
      usual_fits asked default_rules two_done refl refl refl refl (one_group _ (a ∷ []) (nobody _))
      (one_group _ (a ∷ []) (first_alone ((usual default_rules two_done).base 2) refl))
      (no_group _)

  two_cells : (r : Row) (one other : Cell) → r.cells ≡ one ∷ other ∷ [] →
      scored two_done ≡ 1 ∷ 2 ∷ [] →
      IsCellBy asked default_rules two_done (usual default_rules two_done) r 1 one →
      IsCellBy asked default_rules two_done (usual default_rules two_done) r 2 other →
      (race : ℕ) (cell : Cell) → Contains (cells_of default_rules two_done r) (race, cell) →
      IsCellBy asked default_rules two_done (usual default_rules two_done) r race cell
  two_cells r one other cells races first second race cell at =
      by (either (1, one) (2, other) (race, cell)
      (subst (λ rs. Contains (zip rs (one ∷ other ∷ [])) (race, cell)) races
      (subst (λ cs. Contains (zip (scored two_done) cs) (race, cell)) cells at)))
    where
      by : Is (race, cell) (1, one) ⊎ Is (race, cell) (2, other) →
          IsCellBy asked default_rules two_done (usual default_rules two_done) r race cell
      by (inl is) = subst (λ (x : ℕ × Cell). IsCellBy asked default_rules two_done
          (usual default_rules two_done) r x.0 x.1) (sym is) first
      by (inr is) = subst (λ (x : ℕ × Cell). IsCellBy asked default_rules two_done
          (usual default_rules two_done) r x.0 x.1) (sym is) second

abbrev but_worst : Sentences
but_worst = record all { worst = false }

-- her first place is excluded in place of her DNF
pub worst_needed : FitsToo but_worst
worst_needed =
    let done = code_and_finish code.Dnf in
    let w = usual default_rules done in
    let one = coded 20 code.Dnf in
    let other = excluded 10 in
    let r = row a 1 false 20 (one ∷ other ∷ []) in
    record {
      rules = default_rules;
      journal = done;
      table = table (1 ∷ 2 ∷ []) (r ∷ []);
      fits = one_row but_worst default_rules done w (1 ∷ 2 ∷ []) r refl
          (IsPermutation-refl (a ∷ [])) (two_fits but_worst code.Dnf) (record {
            a2_2 = refl;
            cells = two_cells but_worst code.Dnf r one other refl refl
                (plain_cell but_worst default_rules done w r 1 one refl refl refl (λ e. refl))
                (plain_cell but_worst default_rules done w r 2 other refl refl refl (λ e. cc));
            as_many = refl;
            worst = tt;
            total = refl;
          }) refl refl;
      other = told_apart nets (table (1 ∷ 2 ∷ []) (r ∷ [])) (standing default_rules done) refl;
    }

abbrev excluded_dne : Cell
excluded_dne = record { points = 20; mark = Some (abbreviation.Code code.Dne); dropped = true }

abbrev but_dne_counts : Sentences
but_dne_counts = record all { dne_counts = false }

-- a DNE is excluded
pub dne_counts_needed : FitsToo but_dne_counts
dne_counts_needed =
    let done = code_and_finish code.Dne in
    let w = usual default_rules done in
    let one = excluded_dne in
    let other = plain 10 in
    let r = row a 1 false 10 (one ∷ other ∷ []) in
    record {
      rules = default_rules;
      journal = done;
      table = table (1 ∷ 2 ∷ []) (r ∷ []);
      fits = one_row but_dne_counts default_rules done w (1 ∷ 2 ∷ []) r refl
          (IsPermutation-refl (a ∷ [])) (two_fits but_dne_counts code.Dne) (record {
            a2_2 = refl;
            cells = two_cells but_dne_counts code.Dne r one other refl refl
                (plain_cell but_dne_counts default_rules done w r 1 one refl refl refl tt)
                (plain_cell but_dne_counts default_rules done w r 2 other refl refl refl tt);
            as_many = refl;
            worst = λ race second cell kept at_race at_second on off free.
                worse race second cell kept (either (1, one) (2, other) (race, cell) at_race)
                (either (1, one) (2, other) (second, kept) at_second) on off;
            total = refl;
          }) refl refl;
      other = told_apart nets (table (1 ∷ 2 ∷ []) (r ∷ [])) (standing default_rules done) refl;
    }
  where
    worse : (race second : ℕ) (cell kept : Cell) →
        Is (race, cell) (1, excluded_dne) ⊎ Is (race, cell) (2, plain 10) →
        Is (second, kept) (1, excluded_dne) ⊎ Is (second, kept) (2, plain 10) →
        cell.dropped ≡ true → kept.dropped ≡ false →
        (kept.points < cell.points) ⊎ ((kept.points ≡ cell.points) × (race < second))
    worse race second cell kept (inl is) (inl is_kept) on off =
        let clash : true ≡ false = sym (ap (λ (x : ℕ × Cell). x.1.dropped) is_kept) ∙ off in cc
    worse race second cell kept (inl is) (inr is_kept) on off =
        let high = ap (λ (x : ℕ × Cell). x.1.points) is in
        let low = ap (λ (x : ℕ × Cell). x.1.points) is_kept in
        inl (omega (arith, high, low))
    worse race second cell kept (inr is) other on off =
        let clash : false ≡ true = sym (ap (λ (x : ℕ × Cell). x.1.dropped) is) ∙ on in cc

-- ---- rows

abbrev but_a2_2 : Sentences
but_a2_2 = record all { a2_2 = false }

-- she has a second cell, though one race counts
pub a2_2_needed : FitsToo but_a2_2
a2_2_needed =
    let w = usual no_exclusions finishes in
    let c = plain 10 in
    let r = row a 1 false 20 (c ∷ c ∷ []) in
    record {
      rules = no_exclusions;
      journal = finishes;
      table = table (1 ∷ []) (r ∷ []);
      fits = one_row but_a2_2 no_exclusions finishes w (1 ∷ []) r refl
          (IsPermutation-refl (a ∷ [])) (finishes_fits but_a2_2) (record {
            a2_2 = tt;
            cells = λ race cell at. subst (λ (x : ℕ × Cell).
                IsCellBy but_a2_2 no_exclusions finishes w r x.0 x.1)
                (sym (only (1, c) (race, cell) at))
                (plain_cell but_a2_2 no_exclusions finishes w r 1 c refl refl refl (λ e. refl));
            as_many = refl;
            worst = λ race other cell kept at_race at_other on off free.
                (let is = only (1, c) (race, cell) at_race in
                let clash : false ≡ true = sym (ap (λ (x : ℕ × Cell). x.1.dropped) is) ∙ on in cc);
            total = refl;
          }) refl refl;
      other = told_apart nets (table (1 ∷ []) (r ∷ [])) (standing no_exclusions finishes) refl;
    }

abbrev but_as_many : Sentences
but_as_many = record all { as_many = false }

-- her only score is excluded, though the rules exclude none
pub as_many_needed : FitsToo but_as_many
as_many_needed =
    let w = usual no_exclusions finishes in
    let c = excluded 10 in
    alone_too but_as_many no_exclusions finishes w c 0 refl refl (finishes_fits but_as_many)
    (one_cell but_as_many no_exclusions finishes w a 1 0 false c refl
    (plain_cell but_as_many no_exclusions finishes w (row a 1 false 0 (c ∷ [])) 1 c
    refl refl refl (λ e. cc)) tt refl)
    (told_apart nets (table (1 ∷ []) (row a 1 false 0 (c ∷ []) ∷ []))
    (standing no_exclusions finishes) refl)

abbrev but_total : Sentences
but_total = record all { total = false }

-- her series score is 9.9, and her only score 1.0
pub total_needed : FitsToo but_total
total_needed =
    let w = usual no_exclusions finishes in
    let c = plain 10 in
    alone_too but_total no_exclusions finishes w c 99 refl refl (finishes_fits but_total)
    (one_cell but_total no_exclusions finishes w a 1 99 false c refl
    (plain_cell but_total no_exclusions finishes w (row a 1 false 99 (c ∷ [])) 1 c
    refl refl refl (λ e. refl)) refl tt)
    (told_apart nets (table (1 ∷ []) (row a 1 false 99 (c ∷ []) ∷ []))
    (standing no_exclusions finishes) refl)

-- ---- tables

-- her row, as it should be but for its rank and whether it is tied
module _ (asked : Sentences) (rank : ℕ) (tied : Bool) where
  finishes_row : IsRowBy asked no_exclusions finishes (usual no_exclusions finishes)
      (row a rank tied 10 (plain 10 ∷ []))
  finishes_row =
      let w = usual no_exclusions finishes in
      one_cell asked no_exclusions finishes w a rank 10 tied (plain 10) refl
      (plain_cell asked no_exclusions finishes w (row a rank tied 10 (plain 10 ∷ [])) 1 (plain 10)
      refl (given asked.unredressed refl) (given asked.a10 refl)
      (given asked.dne_counts (λ e. refl))) (given asked.as_many refl) (given asked.total refl)

abbrev but_races : Sentences
but_races = record all { races = false }

-- the table has a race that doesn't count
pub races_needed : FitsToo but_races
races_needed =
    let r = row a 1 false 10 (plain 10 ∷ []) in
    record {
      rules = no_exclusions;
      journal = finishes;
      table = table (1 ∷ 2 ∷ []) (r ∷ []);
      fits = one_row but_races no_exclusions finishes (usual no_exclusions finishes) (1 ∷ 2 ∷ []) r
          tt (IsPermutation-refl (a ∷ [])) (finishes_fits but_races)
          (finishes_row but_races 1 false) refl refl;
      other = told_apart (λ t. length t.races) (table (1 ∷ 2 ∷ []) (r ∷ []))
          (standing no_exclusions finishes) refl;
    }

abbrev but_rank : Sentences
but_rank = record all { rank = false }

-- the only boat has rank 2
pub rank_needed : FitsToo but_rank
rank_needed =
    let r = row a 2 false 10 (plain 10 ∷ []) in
    record {
      rules = no_exclusions;
      journal = finishes;
      table = table (1 ∷ []) (r ∷ []);
      fits = one_row but_rank no_exclusions finishes (usual no_exclusions finishes) (1 ∷ []) r
          refl (IsPermutation-refl (a ∷ [])) (finishes_fits but_rank)
          (finishes_row but_rank 2 false) tt refl;
      other = told_apart (λ t. sum_by (λ r. r.rank) t.rows) (table (1 ∷ []) (r ∷ []))
          (standing no_exclusions finishes) refl;
    }

abbrev but_tied : Sentences
but_tied = record all { tied = false }

-- the only boat is tied
pub tied_needed : FitsToo but_tied
tied_needed =
    let r = row a 1 true 10 (plain 10 ∷ []) in
    record {
      rules = no_exclusions;
      journal = finishes;
      table = table (1 ∷ []) (r ∷ []);
      fits = one_row but_tied no_exclusions finishes (usual no_exclusions finishes) (1 ∷ []) r
          refl (IsPermutation-refl (a ∷ [])) (finishes_fits but_tied)
          (finishes_row but_tied 1 true) refl tt;
      other = told_apart (λ t. count_by (λ r. r.tied) t.rows) (table (1 ∷ []) (r ∷ []))
          (standing no_exclusions finishes) refl;
    }

abbrev but_entries : Sentences
but_entries = record all { entries = false }

-- she has no row
pub entries_needed : FitsToo but_entries
entries_needed = record {
  rules = no_exclusions;
  journal = finishes;
  table = table (1 ∷ []) [];
  fits = record {
    races = refl;
    entries = tt;
    working = usual no_exclusions finishes;
    scores = finishes_fits but_entries;
    rows = λ k d within. absurd (omega (arith, within));
    a8 = λ a b has_a has_b. absurd (omega (arith, has_a.1));
    rank = λ k d within. absurd (omega (arith, within));
    tied = λ k d within. absurd (omega (arith, within));
    in_order = λ i j d apart within. absurd (omega (arith, within));
  };
  other = told_apart (λ t. length t.rows) (table (1 ∷ []) []) (standing no_exclusions finishes)
      refl;
}

-- ---- tables of two boats

-- A finishes, and B did not come
abbrev pair : Journal
pair =
    journal (scorer (Enter a) ∷ scorer (Enter b) ∷ scorer (Finish 1 a) ∷ scorer (Score 1) ∷ [])

-- the DNF score is 3 points, of which 20% are 1
abbrev of_pair : Working
of_pair = made no_exclusions pair (order no_exclusions pair) 3 1 10 30 30 (upto 30)

abbrev first_of_pair : ℕ → Bool → Row
first_of_pair rank tied = row a rank tied 10 (plain 10 ∷ [])

abbrev second_of_pair : ℕ → Bool → Row
second_of_pair rank tied = row b rank tied 30 (coded 30 code.Dnc ∷ [])

module _ (asked : Sentences) where
  pair_fits : (race : ℕ) → IsRaceScoredBy asked no_exclusions pair of_pair race
  pair_fits =
      made_fits no_exclusions pair (order no_exclusions pair) 3 1 10 30 30 (upto 30) asked
      (given asked.a3_finish (λ race e. refl)) (given asked.a3_time (λ race e. cc))
      (given asked.a5_2 (λ e. refl)) (given asked.a5_3 (λ race e. cc))
      (given asked.a4_a7 (in_each pair refl (Shares no_exclusions 10 30 30)
      (one_group _ (a ∷ []) (first_alone (of_pair.base 1) refl)) (no_group _) (no_group _)))
      (given asked.dnc refl) (given asked.coded refl)
      (given asked.nearest (record { not_above = omega arith; not_below = omega arith }))
      (given asked.penalties (λ b x below. capped b x 30 below))
      (given asked.no_better (λ b x above. uncapped b x 30 above))

  first_row : (rank : ℕ) (tied : Bool) →
      IsRowBy asked no_exclusions pair of_pair (first_of_pair rank tied)
  first_row rank tied =
      one_cell asked no_exclusions pair of_pair a rank 10 tied (plain 10) refl
      (plain_cell asked no_exclusions pair of_pair (first_of_pair rank tied) 1 (plain 10)
      refl (given asked.unredressed refl) (given asked.a10 refl)
      (given asked.dne_counts (λ e. refl))) (given asked.as_many refl) (given asked.total refl)

  second_row : (rank : ℕ) (tied : Bool) →
      IsRowBy asked no_exclusions pair of_pair (second_of_pair rank tied)
  second_row rank tied =
      let c = coded 30 code.Dnc in
      one_cell asked no_exclusions pair of_pair b rank 30 tied c refl
      (plain_cell asked no_exclusions pair of_pair (second_of_pair rank tied) 1 c
      refl (given asked.unredressed refl) (given asked.a10 refl)
      (given asked.dne_counts (λ e. refl))) (given asked.as_many refl) (given asked.total refl)

abbrev but_a8 : Sentences
but_a8 = record all { a8 = false }

-- both are first, though A has the lower series score
pub a8_needed : FitsToo but_a8
a8_needed =
    let x = first_of_pair 1 true in
    let y = second_of_pair 1 true in
    let rows = x ∷ y ∷ [] in
    record {
      rules = no_exclusions;
      journal = pair;
      table = table (1 ∷ []) rows;
      fits = record {
        races = refl;
        entries = IsPermutation-refl (a ∷ b ∷ []);
        working = of_pair;
        scores = pair_fits but_a8;
        rows = All-from_recursion (IsRowBy but_a8 no_exclusions pair of_pair) rows
            (first_row but_a8 1 true, (second_row but_a8 1 true, tt));
        a8 = tt;
        rank = All-from_recursion
            (λ r. r.rank ≡ 1 + count_by (λ s. nat_lt s.rank r.rank) rows) rows (refl, (refl, tt));
        tied = All-from_recursion
            (λ r. (r.tied ≡ true) ↔ (1 < count_by (λ s. nat_eq s.rank r.rank) rows)) rows (
              (λ e. omega arith, λ more. refl),
              ((λ e. omega arith, λ more. refl), tt),
            );
        in_order = pairs_cons (λ r s. comes_first r s ≡ true) x (y ∷ [])
            (All-from_recursion (λ s. comes_first x s ≡ true) (y ∷ []) (refl, tt))
            (λ i j d apart within. absurd (omega (arith, apart, within)));
      };
      other = told_apart (λ t. sum_by (λ r. r.rank) t.rows) (table (1 ∷ []) rows)
          (standing no_exclusions pair) refl;
    }

abbrev but_in_order : Sentences
but_in_order = record all { in_order = false }

-- B's row comes first
pub in_order_needed : FitsToo but_in_order
in_order_needed =
    let x = first_of_pair 1 false in
    let y = second_of_pair 2 false in
    let rows = y ∷ x ∷ [] in
    record {
      rules = no_exclusions;
      journal = pair;
      table = table (1 ∷ []) rows;
      fits = record {
        races = refl;
        entries = IsPermutation-swap (a ∷ b ∷ []) (b ∷ a ∷ []) 0 1 (omega arith) (omega arith) refl;
        working = of_pair;
        scores = pair_fits but_in_order;
        rows = All-from_recursion (IsRowBy but_in_order no_exclusions pair of_pair) rows
            (second_row but_in_order 2 false, (first_row but_in_order 1 false, tt));
        a8 = λ r s has_r has_s. ranked r s (either y x r has_r) (either y x s has_s);
        rank = All-from_recursion
            (λ r. r.rank ≡ 1 + count_by (λ s. nat_lt s.rank r.rank) rows) rows (refl, (refl, tt));
        tied = All-from_recursion
            (λ r. (r.tied ≡ true) ↔ (1 < count_by (λ s. nat_eq s.rank r.rank) rows)) rows (
              (λ e. cc, λ more. absurd (omega (arith, more))),
              ((λ e. cc, λ more. absurd (omega (arith, more))), tt),
            );
        in_order = tt;
      };
      other = told_apart (λ t. get_or (map (λ r. r.rank) t.rows) 0 0) (table (1 ∷ []) rows)
          (standing no_exclusions pair) refl;
    }
  where
    ranked : (r s : Row) →
        (r ≡ second_of_pair 2 false) ⊎ (r ≡ first_of_pair 1 false) →
        (s ≡ second_of_pair 2 false) ⊎ (s ≡ first_of_pair 1 false) →
        (r.rank < s.rank) ↔ Wins r s
    ranked r s (inl is_r) (inl is_s) = (
      λ lower. absurd (omega (
        arith,
        lower,
        ap (λ (x : Row). x.rank) is_r,
        ap (λ (x : Row). x.rank) is_s,
      )),
      λ wins. absurd (wins_never (second_of_pair 2 false)
          (subst (λ x. Wins x (second_of_pair 2 false)) is_r (subst (Wins r) is_s wins))),
    )
    ranked r s (inr is_r) (inr is_s) = (
      λ lower. absurd (omega (
        arith,
        lower,
        ap (λ (x : Row). x.rank) is_r,
        ap (λ (x : Row). x.rank) is_s,
      )),
      λ wins. absurd (wins_never (first_of_pair 1 false)
          (subst (λ x. Wins x (first_of_pair 1 false)) is_r (subst (Wins r) is_s wins))),
    )
    ranked r s (inr is_r) (inl is_s) =
        let low = ap (λ (x : Row). x.net) is_r in
        let high = ap (λ (x : Row). x.net) is_s in
        let first = ap (λ (x : Row). x.rank) is_r in
        let second = ap (λ (x : Row). x.rank) is_s in
        (λ lower. inl (omega (arith, low, high)), λ wins. omega (arith, first, second))
    ranked r s (inl is_r) (inr is_s) = (
      λ lower. absurd (omega (
        arith,
        lower,
        ap (λ (x : Row). x.rank) is_r,
        ap (λ (x : Row). x.rank) is_s,
      )),
      λ wins. absurd (never (subst (λ x. Wins x (first_of_pair 1 false)) is_r
          (subst (Wins r) is_s wins))),
    )
      where
        never : Wins (second_of_pair 2 false) (first_of_pair 1 false) → ⊥
        never (inl lower) = absurd (omega (arith, lower))
        never (inr (inl case)) = absurd (omega (arith, case.0))
        never (inr (inr case)) = absurd (omega (arith, case.0))
