-- The rows of a standing, and the scores of their boats in parts.
use Rattle.std.proofs.Common.{◌≡◌, ℕ, ◌+◌, ◌<◌, ◌≤◌, Bool, true, false, List, [], ◌∷◌, refl, ap, ◌∙◌, sym}
use Rattle.std.proofs.Common.{◌++◌, ◌-◌, cond, take, All, arith, drop, filter, get_or, length, map, nat_eq, Option, None, Some}
use Rattle.std.proofs.Math.Path.{subst}
use Rattle.std.specs.Prelude.{zip}
use Rattle.std.specs.List.{AllByRecursion, enumerate_from, range_with_len}
use Rattle.std.proofs.lemmas.List.{get_or-map, length-drop, length-map, map-append, map_more}
use Rattle.std.proofs.lemmas.List.{take_more}
use Rattle.std.proofs.lemmas.Grind.{get_or_after_one}
use Rattle.std.proofs.lemmas.List.Elements.{All-from_recursion, All-map, filter-append}
use Rattle.std.proofs.lemmas.List.Elements.{recursion_from_All}
use Rattle.std.proofs.lemmas.List.FromFn.{get_or-enumerate_from, length-enumerate_from}
use Rattle.std.proofs.lemmas.List.FromFn.{length-range_with_len}
use Rattle.std.proofs.lemmas.List.Sums.{count_by-le-length, length-filter}
use Rattle.std.proofs.lemmas.List.Sorted.{All-permutation}
use Rattle.std.proofs.lemmas.Slice.Zip.{get_or-zip, length-zip}
use Rattle.regatta_terms.specs.Rules.{RulesParts}
use Rattle.regatta_terms.specs.declared.command.Redress.{Redress}
use Rattle.regatta_terms.specs.declared.command.Redress.TheVariants.{AllRaces, Points, RacesBefore}
use Rattle.regatta_terms.specs.declared.limits.TheConstants.{MAX_RACES}
use Rattle.regatta_terms.specs.declared.sail.Sail.{Sail}
use Rattle.regatta_scores.specs.declared.boats.Averaged.{Averaged}
use Rattle.regatta_scores.specs.declared.boats.RaceScore.{RaceScore}
use Rattle.regatta_scores.specs.declared.details.Scoring.{Scoring}
use Rattle.regatta_scores.specs.declared.table.Cell.{Cell}
use Rattle.regatta_scores.specs.declared.table.Row.{Row}
use Rattle.regatta_scores.specs.Details.{scoring}
use Rattle.regatta_scores.specs.Journal.{Journal, entered, is_scored, same_sail, scored}
use Rattle.regatta_scores.specs.Lines.{cells}
use Rattle.regatta_scores.specs.Outcomes.{outcome, redress_by, score_of, scores}
use Rattle.regatta_scores.specs.RacePoints.{journal_race}
use Rattle.regatta_scores.specs.Standing.{line, standing}
use Rattle.regatta_scores.proofs.Lengths.{long_flags, long_points, long_zip}
use Rattle.regatta_scores.proofs.Members.{all_passed}
use Rattle.regatta_scores.proofs.Ranges.{range_more}
use Rattle.regatta_scores.proofs.StandingRows.{standing_has_the_entered}
use Rattle.regatta_board.specs.Details.{boat_at}
use Rattle.regatta_board.specs.Refusals.{is_entered}
use Rattle.regatta_board.proofs.Maps.{map_map}
use Rattle.regatta_board.proofs.Numbers.{all_in, map_known}
use Rattle.regatta_explain.specs.Averaged.{counted, counted_races, counted_sum}
use Rattle.regatta_explain.specs.Explained.{neighbour_part, neighbours, score_part}
use Rattle.regatta_explain.specs.Made.{IsRowOf, line_of_row, neighbour_by, no_scoring, score_by, score_in}
use Rattle.regatta_explain.specs.Made.{part_at, scores_by, scoring_in, scorings_of}
use Rattle.regatta_explain.specs.Separations.{separation}

-- ---- the rows of the standing

module _ (rules : RulesParts) (journal : Journal) where
  -- each is the row of a boat that is entered
  pub rows_are : All (IsRowOf rules journal) (standing rules journal).rows
  rows_are k d h =
      let rows = (standing rules journal).rows in
      let are = standing_has_the_entered rules journal in
      let sails : All (λ boat. is_entered journal boat ≡ true) (map (λ (r : Row). r.sail) rows) =
      All-permutation (λ boat. is_entered journal boat ≡ true) (entered journal)
      (map (λ (r : Row). r.sail) rows) are.each_once
      (All-from_recursion (λ boat. is_entered journal boat ≡ true) (entered journal)
      (all_in (entered journal) (entered journal) (λ x e. e))) in
      let long : length (map (λ (r : Row). r.sail) rows) ≡ length rows = length-map rows _ in
      let hers : is_entered journal (get_or rows k d).sail ≡ true =
      subst (λ (boat : Sail). is_entered journal boat ≡ true)
      (get_or-map (λ (r : Row). r.sail) rows k d d.sail h)
      (sails k d.sail (omega (arith, long, h))) in
      record { enters = hers; is = are.hers k d h }

  -- it has a cell for each race that counts
  pub cells_long : (hers : Row) → IsRowOf rules journal hers
      → length hers.cells ≡ length (scored journal)
  cells_long hers row_is =
      let all = scores rules journal hers.sail in
      let points = (line rules journal hers.sail).points in
      let flags = (line rules journal hers.sail).excluded in
      let both : length (zip points flags) ≡ length all =
      long_zip points flags (long_flags rules all ∙ sym (long_points all)) ∙ long_points all in
      ap (λ (r : Row). length r.cells) row_is.is
      ∙ length-map (zip all (zip points flags)) _
      ∙ long_zip all (zip points flags) both
      ∙ length-map (scored journal) _

-- the points and the flags of cells
points_read : (all : List RaceScore) (points : List ℕ) (flags : List Bool)
    → length points ≡ length all → length flags ≡ length all
    → map (λ (cell : Cell). cell.points) (cells all points flags) ≡ points
points_read [] [] flags e f = refl
points_read [] (x ∷ xs) flags e f = absurd (omega (arith, e))
points_read (s ∷ ss) [] flags e f = absurd (omega (arith, e))
points_read (s ∷ ss) (x ∷ xs) [] e f = absurd (omega (arith, f))
points_read (s ∷ ss) (x ∷ xs) (b ∷ flags) e f =
    ap (λ (ps : List ℕ). x ∷ ps) (points_read ss xs flags (omega (arith, e)) (omega (arith, f)))

flags_read : (all : List RaceScore) (points : List ℕ) (flags : List Bool)
    → length points ≡ length all → length flags ≡ length all
    → map (λ (cell : Cell). cell.dropped) (cells all points flags) ≡ flags
flags_read [] points [] e f = refl
flags_read [] points (b ∷ flags) e f = absurd (omega (arith, f))
flags_read (s ∷ ss) [] flags e f = absurd (omega (arith, e))
flags_read (s ∷ ss) (x ∷ xs) [] e f = absurd (omega (arith, f))
flags_read (s ∷ ss) (x ∷ xs) (b ∷ flags) e f =
    ap (λ (bs : List Bool). b ∷ bs) (flags_read ss xs flags (omega (arith, e)) (omega (arith, f)))

module _ (rules : RulesParts) (journal : Journal) where
  -- her line is that of her row
  pub line_is : (hers : Row) → IsRowOf rules journal hers
      → line_of_row hers ≡ line rules journal hers.sail
  line_is hers row_is =
      let all = scores rules journal hers.sail in
      let points = (line rules journal hers.sail).points in
      let flags = (line rules journal hers.sail).excluded in
      ap line_of_row row_is.is
      ∙ (λ i. record {
        points = points_read all points flags (long_points all) (long_flags rules all) i;
        excluded = flags_read all points flags (long_points all) (long_flags rules all) i;
      })

  -- ---- neighbours

  both_in : {X : Type 0} (P : X → Type 0) (xs ys : List X) → AllByRecursion P xs
      → AllByRecursion P ys → AllByRecursion (λ (z : X × X). P z.0 × P z.1) (zip xs ys)
  both_in P [] ys all every = tt
  both_in P (x ∷ xs) [] all every = tt
  both_in P (x ∷ xs) (y ∷ ys) all every =
      ((all.0, every.0), both_in P xs ys all.1 every.1)

  dropped : {X : Type 0} (P : X → Type 0) (xs : List X) → AllByRecursion P xs
      → AllByRecursion P (drop 1 xs)
  dropped P [] all = tt
  dropped P (x ∷ xs) all = all.1

  -- by the rows of neighbours the lines are those of the journal
  pub neighbours_are : (rows : List Row) → All (IsRowOf rules journal) rows
      → map (neighbour_by (scored journal)) (neighbours rows)
      ≡ map (neighbour_part rules journal) (neighbours rows)
  unfolding neighbour_by neighbour_part
  neighbours_are rows all =
      let each = recursion_from_All (IsRowOf rules journal) rows all in
      map_known (λ (pair : Row × Row). IsRowOf rules journal pair.0 × IsRowOf rules journal pair.1)
      (neighbour_by (scored journal)) (neighbour_part rules journal)
      (λ pair known i. record {
        first = pair.0.sail;
        second = pair.1.sail;
        rule = separation (scored journal) (line_is pair.0 known.0 i) (line_is pair.1 known.1 i);
      })
      (neighbours rows)
      (all_passed (λ (pair : Row × Row). IsRowOf rules journal pair.0 × IsRowOf rules journal pair.1)
      (λ (pair : Row × Row). nat_eq pair.0.net pair.1.net) (zip rows (drop 1 rows))
      (both_in (IsRowOf rules journal) rows (drop 1 rows) each
      (dropped (IsRowOf rules journal) rows each)))

  -- ---- scores

  -- over which races an average goes doesn't depend on her points
  over_is : (plain : ℕ) (redress : Option Redress)
      → (redress_by plain redress).1 ≡ (redress_by 0 redress).1
  over_is plain None = refl
  over_is plain (Some (Points award)) = refl
  over_is plain (Some AllRaces) = refl
  over_is plain (Some RacesBefore) = refl

  module _ (boat : Sail) (n : ℕ) (within : n < length (entered journal))
      (here : boat_at (entered journal) n ≡ boat) where
    -- her score in a race, by her number
    scoring_is : (race : ℕ) → scoring_in n (scorings_of rules journal race)
        ≡ scoring same_sail rules (journal_race rules journal race) boat
    unfolding scorings_of
    scoring_is race =
        get_or-map (scoring same_sail rules (journal_race rules journal race)) (entered journal) n []
        no_scoring within
        ∙ ap (scoring same_sail rules (journal_race rules journal race)) here

    scores_are : (races : List ℕ)
        → map (score_in n) (map (scorings_of rules journal) races)
        ≡ map (λ race. score_of (outcome same_sail rules (journal_race rules journal race) boat))
        races
    unfolding scorings_of
    scores_are races =
        map_map (score_in n) (scorings_of rules journal) races
        ∙ (λ i. map (λ race. (scoring_is race i).score) races)

    -- her score in race i of those that count
    part_is : (i race : ℕ) (cell : Cell)
        → score_by (zip (scored journal) (scores rules journal boat)) i race
        (scoring same_sail rules (journal_race rules journal race) boat) cell
        ≡ score_part rules journal boat i race cell
    unfolding score_by score_part
    part_is i race cell j =
        let hers = scoring same_sail rules (journal_race rules journal race) boat in
        let over : Averaged =
        over_is hers.plain hers.held.redress j in
        let taken = counted (zip (scored journal) (scores rules journal boat)) i over in
        record {
          race = race;
          status = hers.status;
          base = hers.base;
          penalty = hers.penalty;
          plain = hers.plain;
          redress = hers.held.redress;
          averaged = counted_races taken;
          sum = counted_sum taken;
          points = cell.points;
          mark = cell.mark;
          excluded = cell.dropped;
        }

    -- the scores of all boats in a race are at its position
    abbrev IsAt : List ℕ → ℕ × (ℕ × Cell) → Type 0
    IsAt races at =
        get_or (map (scorings_of rules journal) races) at.0 [] ≡ scorings_of rules journal at.1.0

    all_at : (races : List ℕ) (hers : List Cell) → length hers ≡ length races
        → All (IsAt races) (enumerate_from 0 (zip races hers))
    unfolding scorings_of
    all_at races hers equal k d h =
        let long : length (enumerate_from 0 (zip races hers)) ≡ length (zip races hers) =
        length-enumerate_from 0 (zip races hers) in
        let below : k < length (zip races hers) = omega (arith, long, h) in
        let first : k < length races = omega (arith, below, length-zip races hers, equal) in
        let second : k < length hers = omega (arith, first, equal) in
        let item : get_or (enumerate_from 0 (zip races hers)) k d
        ≡ (k, (get_or races k d.1.0, get_or hers k d.1.1)) =
        get_or-enumerate_from 0 (zip races hers) k d below
        ∙ (λ i. (
          (let same : 0 + k ≡ k = omega arith in same) i,
          get_or-zip races hers k d.1 first second i,
        )) in
        subst (IsAt races) (sym item)
        (get_or-map (scorings_of rules journal) races k d.1.0 [] first)

    -- her scores in the races that count
    pub parts_are : (hers : List Cell) → length hers ≡ length (scored journal)
        → scores_by (scored journal) (map (scorings_of rules journal) (scored journal)) n hers
        ≡ map (λ score. score_part rules journal boat score.0 score.1.0 score.1.1)
        (enumerate_from 0 (zip (scored journal) hers))
    unfolding part_at scores_by
    parts_are hers equal =
        let races = scored journal in
        let numbered : zip races (map (score_in n) (map (scorings_of rules journal) races))
        ≡ zip races (scores rules journal boat) = ap (zip races) (scores_are races) in
        map_known (IsAt races)
        (part_at races (map (scorings_of rules journal) races) n)
        (λ (at : ℕ × (ℕ × Cell)). score_part rules journal boat at.0 at.1.0 at.1.1)
        (λ at known.
        (λ i. score_by (numbered i) at.0 at.1.0
        ((ap (scoring_in n) known ∙ scoring_is at.1.0) i) at.1.1)
        ∙ part_is at.0 at.1.0 at.1.1)
        (enumerate_from 0 (zip races hers))
        (recursion_from_All (IsAt races) (enumerate_from 0 (zip races hers)) (all_at races hers equal))

-- no more races count than there are
pub races_few : (journal : Journal) → length (scored journal) ≤ MAX_RACES
races_few journal =
    omega (
      arith,
      length-filter (is_scored journal) (range_with_len 1 MAX_RACES),
      count_by-le-length (is_scored journal) (range_with_len 1 MAX_RACES),
      length-range_with_len 1 MAX_RACES,
    )

-- each boat entered has a score in each race
pub boats_within : (rules : RulesParts) (journal : Journal) (races : List ℕ) (n : ℕ)
    → n < length (entered journal)
    → All (λ race. n < length race) (map (scorings_of rules journal) races)
unfolding scorings_of
boats_within rules journal races n within =
    All-map (λ (race : List Scoring). n < length race) (scorings_of rules journal) races
    (λ k d h. omega (
      arith,
      within,
      length-map (entered journal)
          (scoring same_sail rules (journal_race rules journal (get_or races k d))),
    ))

-- the scores in one race more
pub parts_more : {X : Type 0} (part : ℕ × (ℕ × Cell) → X) (races : List ℕ) (hers : List Cell) (i : ℕ)
    (race : ℕ) (cell : Cell) → i < length races → length hers ≡ length races
    → race ≡ get_or races i race → cell ≡ get_or hers i cell
    → map part (take (i + 1) (enumerate_from 0 (zip races hers)))
    ≡ map part (take i (enumerate_from 0 (zip races hers))) ++ part (i, (race, cell)) ∷ []
parts_more part races hers i race cell within equal is_race is_cell =
    let all = enumerate_from 0 (zip races hers) in
    let none : ℕ × (ℕ × Cell) = (0, (race, cell)) in
    let long : length all ≡ length (zip races hers) = length-enumerate_from 0 (zip races hers) in
    let both : i < length (zip races hers) =
    omega (arith, within, equal, length-zip races hers) in
    let below : i < length all = omega (arith, both, long) in
    let item : get_or all i none ≡ (i, (race, cell)) =
    get_or-enumerate_from 0 (zip races hers) i none both
    ∙ (λ t. (
      (let same : 0 + i ≡ i = omega arith in same) t,
      (get_or-zip races hers i (race, cell) within (omega (arith, within, equal))
          ∙ (λ u. (sym is_race u, sym is_cell u))) t,
    )) in
    map_more part all i none below
    ∙ ap (λ (at : ℕ × (ℕ × Cell)). map part (take i all) ++ part at ∷ []) item

-- the neighbours up to one row more
pub neighbours_more : {X : Type 0} (part : Row × Row → X) (rows : List Row) (i : ℕ)
    (first second : Row) → 1 ≤ i → i < length rows → first ≡ get_or rows (i - 1) first
    → second ≡ get_or rows i second
    → map part (filter (λ pair. nat_eq pair.0.net pair.1.net)
    (take ((i + 1) - 1) (zip rows (drop 1 rows))))
    ≡ map part (filter (λ pair. nat_eq pair.0.net pair.1.net) (take (i - 1) (zip rows (drop 1 rows))))
    ++ cond (nat_eq first.net second.net) (part (first, second) ∷ []) []
neighbours_more {X} part rows i first second some within is_first is_second =
    let pairs = zip rows (drop 1 rows) in
    let same = λ (pair : Row × Row). nat_eq pair.0.net pair.1.net in
    let k = i - 1 in
    let next : (i + 1) - 1 ≡ k + 1 = omega arith in
    let here : 1 + k ≡ i = omega (arith, some) in
    let rest : length (drop 1 rows) ≡ length rows - 1 = length-drop 1 rows in
    let below : k < length pairs = omega (arith, within, some, rest, length-zip rows (drop 1 rows)) in
    let item : get_or pairs k (first, second) ≡ (first, second) =
    get_or-zip rows (drop 1 rows) k (first, second) (omega (arith, within))
    (omega (arith, within, some, rest))
    ∙ (λ t. (
      sym is_first t,
      (get_or_after_one rows k second ∙ ap (λ (n : ℕ). get_or rows n second) here
          ∙ sym is_second) t,
    )) in
    ap (λ (n : ℕ). map part (filter same (take n pairs))) next
    ∙ ap (λ (ps : List (Row × Row)). map part (filter same ps))
    (take_more pairs k (first, second) below)
    ∙ ap (map part) (filter-append same (take k pairs) (get_or pairs k (first, second) ∷ []))
    ∙ map-append part (filter same (take k pairs))
    (filter same (get_or pairs k (first, second) ∷ []))
    ∙ ap (λ (pair : Row × Row). map part (filter same (take k pairs))
    ++ map part (filter same (pair ∷ []))) item
    ∙ ap (λ (xs : List X). map part (filter same (take k pairs)) ++ xs)
    (by (nat_eq first.net second.net))
  where
    by : (b : Bool) → map part (cond b ((first, second) ∷ []) [])
        ≡ cond b (part (first, second) ∷ []) []
    by true = refl
    by false = refl

-- those of some first races that pass a test, and one more
pub filter_next : (test : ℕ → Bool) (i : ℕ)
    → filter test (range_with_len 1 (i + 1))
    ≡ filter test (range_with_len 1 i) ++ cond (test (i + 1)) ((i + 1) ∷ []) []
filter_next test i =
    let same : (1 + i) ≡ i + 1 = omega arith in
    ap (filter test) (range_more 1 i) ∙ filter-append test (range_with_len 1 i) ((1 + i) ∷ [])
    ∙ ap (λ (k : ℕ). filter test (range_with_len 1 i) ++ filter test (k ∷ [])) same
