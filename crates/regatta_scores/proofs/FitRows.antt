-- The rows of the standing fit the sentences of Appendix A.
use Rattle.std.proofs.Common.{◌≡◌, ℕ, zero, suc, ◌+◌, ◌*◌, ◌/◌, ◌<◌, min, Bool, true, false, cond}
use Rattle.std.proofs.Common.{not, List, [], ◌∷◌, refl, ap, ◌∙◌, sym, subst, arith, length, map}
use Rattle.std.proofs.Common.{filter, take, remove, zip, sum, sum_by, count_by, slice_get, Some}
use Rattle.std.proofs.Common.{Option, None, ◌⊎◌, nat_eq, nat_lt, Contains}
use mathlib.Core.Logic.{inl, inr}
use Rattle.std.specs.List.{AllZip, enumerate_from, range_with_len}
use Rattle.std.specs.Option.{option_map}
use borrow.Author.Tests.{eq-eqb}
use Rattle.std.proofs.lemmas.List.{length-map}
use Rattle.std.proofs.lemmas.Option.{same_Some, slice_get-map}
use Rattle.regatta_terms.specs.Rules.{RulesParts, exclusions_of}
use Rattle.regatta_terms.specs.declared.limits.TheConstants.{MAX_RACES}
use Rattle.regatta_terms.specs.declared.sail.Sail.{Sail}
use Rattle.regatta_terms.specs.declared.command.Redress as redress_type
use Rattle.regatta_terms.specs.declared.command.Redress.TheVariants.{Points, AllRaces, RacesBefore}
use Rattle.regatta_scores.specs.declared.boats.Averaged.{Averaged}
use Rattle.regatta_scores.specs.declared.boats.Averaged.TheVariants.{OverNone, OverAll, OverBefore}
use Rattle.regatta_scores.specs.declared.boats.RaceScore.{RaceScore}
use Rattle.regatta_scores.specs.declared.boats.Scored.{Scored}
use Rattle.regatta_scores.specs.declared.table.Cell.{Cell}
use Rattle.regatta_scores.specs.declared.table.Row.{Row}
use Rattle.regatta_scores.specs.Journal.{Journal, same_sail, scored, is_scored, held}
use Rattle.regatta_scores.specs.Averages.{is_own, average_over, redressed, points}
use Rattle.regatta_scores.specs.Exclusions.{excluded}
use Rattle.regatta_scores.specs.Lines.{scored_by, cells}
use Rattle.regatta_scores.specs.Outcomes.{redress_by, outcome, score_of, scores}
use Rattle.regatta_scores.specs.RacePoints.{plain, journal_race}
use Rattle.regatta_scores.specs.Ranking.{BoatScores}
use Rattle.regatta_scores.specs.Standing.{row}
use Rattle.regatta_scores.specs.RedressLaws.{counted}
use Rattle.regatta_scores.specs.AppendixA.{IsAverage, IsNearest, is_average, IsRowOf, IsCellOf}
use Rattle.regatta_scores.specs.AppendixA.{own_points, cells_of, redress, is_excludable}
use Rattle.regatta_scores.proofs.AverageBounds.{averages_are_nearest}
use Rattle.regatta_scores.proofs.Counts.{count_cons, count_by-map, sum_by-map}
use Rattle.regatta_scores.proofs.ExclusionCounts.{enumerate_at, worst_are_excluded}
use Rattle.regatta_scores.proofs.Lengths.{long_points, long_excluded, long_scored}
use Rattle.regatta_scores.proofs.StandingRows.{her_cells}
use Rattle.regatta_scores.proofs.Zipped.{long_cells}
use Rattle.regatta_scores.proofs.RaceNumbers.{zip_contains, zip_take, zip_remove, rises_at}
use Rattle.regatta_scores.proofs.RaceNumbers.{before_are, others_are, both_pass}
use Rattle.regatta_scores.proofs.SameRows.{not_true}
use Rattle.regatta_scores.proofs.TiedTimes.{Rises, some_rise, range_rises}
use Rattle.regatta_scores.proofs.FitRaces.{work}

-- ---- a cell, by its race

-- the i-th race that counts, and her cell for it
record CellAt (journal : Journal) (row : Row) (i race : ℕ) (cell : Cell) : Type 0 where
  counts : slice_get (scored journal) i ≡ Some race
  hers : slice_get row.cells i ≡ Some cell

cell_parts : (ss : List RaceScore) (ps : List ℕ) (fs : List Bool) (i : ℕ) (s : RaceScore)
    (cell : Cell) → length ps ≡ length ss → length fs ≡ length ss → slice_get ss i ≡ Some s →
    slice_get (cells ss ps fs) i ≡ Some cell →
    (slice_get ps i ≡ Some cell.points) × (slice_get fs i ≡ Some cell.dropped)
    × (cell.mark ≡ s.mark)
cell_parts [] ps fs i s cell e f at_s at_cell = cc
cell_parts (x ∷ ss) [] fs i s cell e f at_s at_cell = absurd (omega (arith, e))
cell_parts (x ∷ ss) (p ∷ ps) [] i s cell e f at_s at_cell = absurd (omega (arith, f))
cell_parts (x ∷ ss) (p ∷ ps) (b ∷ fs) zero s cell e f at_s at_cell =
    let is_s : x ≡ s = same_Some x s at_s in
    let is_cell : record { points = p; mark = x.mark; dropped = b } ≡ cell =
    same_Some (record { points = p; mark = x.mark; dropped = b }) cell at_cell in (
      ap (λ (c : Cell). Some c.points) is_cell,
      ap (λ (c : Cell). Some c.dropped) is_cell,
      sym (ap (λ (c : Cell). c.mark) is_cell) ∙ ap (λ (r : RaceScore). r.mark) is_s,
    )
cell_parts (x ∷ ss) (p ∷ ps) (b ∷ fs) (suc i) s cell e f at_s at_cell =
    cell_parts ss ps fs i s cell (omega (arith, e)) (omega (arith, f)) at_s at_cell

scored_at : (ss : List RaceScore) (ps : List ℕ) (i : ℕ) (s : RaceScore) (p : ℕ) →
    slice_get ss i ≡ Some s → slice_get ps i ≡ Some p →
    slice_get (scored_by ss ps) i ≡ Some (record { points = p; dne = s.dne })
scored_at [] ps i s p at_s at_p = cc
scored_at (x ∷ ss) [] i s p at_s at_p = cc
scored_at (x ∷ ss) (q ∷ ps) zero s p at_s at_p =
    let is_s : x ≡ s = same_Some x s at_s in
    let is_p : q ≡ p = same_Some q p at_p in
    λ i. Some (record { points = is_p i; dne = (is_s i).dne })
scored_at (x ∷ ss) (q ∷ ps) (suc i) s p at_s at_p = scored_at ss ps i s p at_s at_p

flags_of : (ss : List RaceScore) (ps : List ℕ) (fs : List Bool) → length ps ≡ length ss →
    length fs ≡ length ss → map (λ (c : Cell). c.dropped) (cells ss ps fs) ≡ fs
flags_of [] [] [] e f = refl
flags_of [] [] (b ∷ fs) e f = absurd (omega (arith, f))
flags_of [] (p ∷ ps) fs e f = absurd (omega (arith, e))
flags_of (s ∷ ss) [] fs e f = absurd (omega (arith, e))
flags_of (s ∷ ss) (p ∷ ps) [] e f = absurd (omega (arith, f))
flags_of (s ∷ ss) (p ∷ ps) (b ∷ fs) e f =
    ap (λ bs. b ∷ bs) (flags_of ss ps fs (omega (arith, e)) (omega (arith, f)))

free_count : (ss : List RaceScore) (ps : List ℕ) → length ps ≡ length ss →
    count_by (λ (s : Scored). not s.dne) (scored_by ss ps)
    ≡ count_by (λ (s : RaceScore). not s.dne) ss
free_count [] ps e = refl
free_count (s ∷ ss) [] e = absurd (omega (arith, e))
free_count (s ∷ ss) (p ∷ ps) e =
    let first : Scored = record { points = p; dne = s.dne } in
    omega (
      arith,
      count_cons (λ (x : Scored). not x.dne) first (scored_by ss ps),
      count_cons (λ (x : RaceScore). not x.dne) s ss,
      free_count ss ps (omega (arith, e)),
    )

points_at : (ss : List RaceScore) (i : ℕ) (s : RaceScore) → slice_get ss i ≡ Some s →
    slice_get (points ss) i ≡ Some (redressed ss i s.points s.averaged)
points_at ss i s at =
    let f = λ (race : ℕ × RaceScore). redressed ss race.0 race.1.points race.1.averaged in
    slice_get-map f (enumerate_from 0 ss) i
    ∙ ap (option_map f) (enumerate_at 0 ss i i s (omega arith) at)

-- ---- averages

own_by : (plain : ℕ) (o : Option redress_type.Redress) →
    not (is_average o) ≡ is_own (redress_by plain o).1
own_by plain None = refl
own_by plain (Some (Points award)) = refl
own_by plain (Some AllRaces) = refl
own_by plain (Some RacesBefore) = refl

not_false : (b : Bool) → not b ≡ false → b ≡ true
not_false true e = refl
not_false false e = cc

own_stays : (ss : List RaceScore) (i own : ℕ) (over : Averaged) → is_own over ≡ true →
    redressed ss i own over ≡ own
own_stays ss i own OverNone e = refl
own_stays ss i own OverAll e = cc
own_stays ss i own OverBefore e = cc

-- a race with its cell, and its score
abbrev Fits : (ℕ → Bool) → ℕ × Cell → RaceScore → Type 0
Fits averaged r s =
    (not (averaged r.0) ≡ is_own s.averaged)
    × (is_own s.averaged ≡ true → r.1.points ≡ s.points)

fits_points : (averaged : ℕ → Bool) (rs : List (ℕ × Cell)) (ss : List RaceScore) →
    AllZip (Fits averaged) rs ss →
    map (λ r. r.1.points) (filter (λ r. not (averaged r.0)) rs)
    ≡ map (λ s. s.points) (counted ss)
fits_points averaged [] [] each = refl
fits_points averaged [] (s ∷ ss) each = absurd each
fits_points averaged (r ∷ rs) [] each = absurd each
fits_points averaged (r ∷ rs) (s ∷ ss) each =
    by (is_own s.averaged) refl (fits_points averaged rs ss each.1)
  where
    by : (b : Bool) → is_own s.averaged ≡ b →
        map (λ (x : ℕ × Cell). x.1.points) (filter (λ x. not (averaged x.0)) rs)
        ≡ map (λ (x : RaceScore). x.points) (counted ss) →
        map (λ (x : ℕ × Cell). x.1.points) (filter (λ x. not (averaged x.0)) (r ∷ rs))
        ≡ map (λ (x : RaceScore). x.points) (counted (s ∷ ss))
    by true e rest =
        let here = each.0.1 e in
        rw (each.0.0, e) (λ i. here i ∷ rest i)
    by false e rest = rw (each.0.0, e) rest

fits_each : (averaged : ℕ → Bool) (races : List ℕ) (cs : List Cell) (ss : List RaceScore) →
    length cs ≡ length races → length ss ≡ length races →
    ((i race : ℕ) (c : Cell) (s : RaceScore) → slice_get races i ≡ Some race →
    slice_get cs i ≡ Some c → slice_get ss i ≡ Some s → Fits averaged (race, c) s) →
    AllZip (Fits averaged) (zip races cs) ss
fits_each averaged [] cs [] e f each = tt
fits_each averaged [] cs (s ∷ ss) e f each = absurd (omega (arith, f))
fits_each averaged (race ∷ races) [] ss e f each = absurd (omega (arith, e))
fits_each averaged (race ∷ races) (c ∷ cs) [] e f each = absurd (omega (arith, f))
fits_each averaged (race ∷ races) (c ∷ cs) (s ∷ ss) e f each = (
  each zero race c s refl refl refl,
  fits_each averaged races cs ss (omega (arith, e)) (omega (arith, f))
      (λ i r x y at_r at_x at_y. each (suc i) r x y at_r at_x at_y),
)

scored_rise : (journal : Journal) → Rises (scored journal)
scored_rise journal =
    some_rise (is_scored journal) (range_with_len 1 MAX_RACES) (range_rises 1 MAX_RACES)

average_fits : (scores : List ℕ) (races : List RaceScore) (plain : ℕ) →
    scores ≡ map (λ s. s.points) (counted races) → IsAverage scores plain (average_over races plain)
average_fits scores races plain same =
    let long : length scores ≡ length (counted races) =
    ap length same ∙ length-map (counted races) (λ s. s.points) in
    let total : sum scores ≡ sum_by (λ s. s.points) (counted races) =
    ap sum same ∙ sum_by-map (λ x. x) (λ (s : RaceScore). s.points) (counted races) in
    let near = averages_are_nearest races plain in
    let a = average_over races plain in
    record {
      of_none = λ none. ap (λ b. cond b plain ((2 * sum_by (λ (s : RaceScore). s.points)
          (counted races) + length (counted races)) / (2 * length (counted races))))
          (eq-eqb (length (counted races)) 0 (omega (arith, none, long)));
      of_some = λ some. (let both = near (omega (arith, some, long)) in
          subst (λ n. IsNearest (sum scores) n a) (sym long)
          (subst (λ t. IsNearest t (length (counted races)) a) (sym total)
          (record { not_above = both.0; not_below = both.1 })));
    }

-- ---- a row

module _ (rules : RulesParts) (journal : Journal) (all : List BoatScores) (boat : Sail) where
  abbrev hers : Row
  hers = row rules journal all boat

  abbrev ss : List RaceScore
  ss = scores rules journal boat

  abbrev score_in : ℕ → RaceScore
  score_in race = score_of (outcome same_sail rules (journal_race rules journal race) boat)

  abbrev plain_in : ℕ → ℕ
  plain_in race = plain same_sail rules (journal_race rules journal race) boat

  abbrev d : ℕ
  d = exclusions_of rules.thresholds (length ss)

  abbrev fs : List Bool
  fs = excluded d (scored_by ss (points ss))

  many : length ss ≡ length (scored journal)
  many = length-map (scored journal) _

  long_ps : length (points ss) ≡ length ss
  long_ps = long_points ss

  long_fs : length fs ≡ length ss
  long_fs = long_excluded d (scored_by ss (points ss)) ∙ long_scored ss (points ss) long_ps

  long_hers : length hers.cells ≡ length (scored journal)
  long_hers = long_cells ss (points ss) fs long_ps long_fs ∙ many

  score_at : (i race : ℕ) → slice_get (scored journal) i ≡ Some race →
      slice_get ss i ≡ Some (score_in race)
  score_at i race at =
      slice_get-map (λ race. score_of (outcome same_sail rules (journal_race rules journal race)
      boat)) (scored journal) i
      ∙ ap (option_map (λ race. score_of (outcome same_sail rules
      (journal_race rules journal race) boat))) at

  -- her points, whether they are excluded, and the abbreviation
  parts : (i race : ℕ) (cell : Cell) → CellAt journal hers i race cell →
      (cell.points ≡ redressed ss i (score_in race).points (score_in race).averaged)
      × (slice_get fs i ≡ Some cell.dropped) × (cell.mark ≡ (score_in race).mark)
      × (slice_get (points ss) i ≡ Some cell.points)
  parts i race cell at =
      let at_s = score_at i race at.counts in
      let found = cell_parts ss (points ss) fs i (score_in race) cell long_ps long_fs at_s at.hers in (
        same_Some cell.points (redressed ss i (score_in race).points (score_in race).averaged)
            (sym found.0 ∙ points_at ss i (score_in race) at_s),
        found.1,
        found.2,
        found.0,
      )

  with_redress : (i race : ℕ) (cell : Cell) → CellAt journal hers i race cell →
      (o : Option redress_type.Redress) → redress rules journal hers race ≡ o →
      cell.points ≡ redressed ss i (redress_by (plain_in race) o).0 (redress_by (plain_in race) o).1
  with_redress i race cell at o e =
      (parts i race cell at).0
      ∙ ap (λ r. redressed ss i (redress_by (plain_in race) r).0 (redress_by (plain_in race) r).1) e

  averaged : ℕ → Bool
  averaged race = is_average (redress rules journal hers race)

  fits : AllZip (Fits averaged) (cells_of rules journal hers) ss
  unfolding averaged
  fits =
      fits_each averaged (scored journal) hers.cells ss long_hers many
      (λ i race c s at_race at_c at_s.
      let at : CellAt journal hers i race c = record { counts = at_race; hers = at_c } in
      let is : score_in race ≡ s = same_Some (score_in race) s
      (sym (score_at i race at_race) ∙ at_s) in (
        own_by (plain_in race) (held journal race boat).redress
            ∙ ap (λ (x : RaceScore). is_own x.averaged) is,
        λ own. (parts i race c at).0
            ∙ own_stays ss i (score_in race).points (score_in race).averaged
            (ap (λ (x : RaceScore). is_own x.averaged) is ∙ own)
            ∙ ap (λ (x : RaceScore). x.points) is,
      ))

  -- her own points in the races that pass a test, which are those of a part of the list
  own_are : (test : ℕ → Bool) (part : List (ℕ × Cell)) (scores : List RaceScore) →
      filter (λ r. test r.0) (cells_of rules journal hers) ≡ part →
      AllZip (Fits averaged) part scores →
      own_points rules journal hers test ≡ map (λ s. s.points) (counted scores)
  unfolding averaged
  own_are test part scores same each =
      ap (map (λ (r : ℕ × Cell). r.1.points))
      (both_pass (λ (r : ℕ × Cell). test r.0) (λ r. not (averaged r.0)) (cells_of rules journal hers)
      ∙ ap (filter (λ (r : ℕ × Cell). not (averaged r.0))) same)
      ∙ fits_points averaged part scores each

  average_of_others : (i race : ℕ) → slice_get (scored journal) i ≡ Some race →
      IsAverage (own_points rules journal hers (λ other. not (nat_eq other race)))
      (plain_in race) (average_over (remove ss i) (plain_in race))
  average_of_others i race at =
      average_fits (own_points rules journal hers (λ other. not (nat_eq other race)))
      (remove ss i) (plain_in race)
      (own_are (λ other. not (nat_eq other race)) (remove (cells_of rules journal hers) i)
      (remove ss i)
      (others_are (scored journal) hers.cells (scored_rise journal) long_hers i race at)
      (zip_remove (Fits averaged) i (cells_of rules journal hers) ss fits))

  average_of_earlier : (i race : ℕ) → slice_get (scored journal) i ≡ Some race →
      IsAverage (own_points rules journal hers (λ other. nat_lt other race))
      (plain_in race) (average_over (take i ss) (plain_in race))
  average_of_earlier i race at =
      average_fits (own_points rules journal hers (λ other. nat_lt other race))
      (take i ss) (plain_in race)
      (own_are (λ other. nat_lt other race) (take i (cells_of rules journal hers)) (take i ss)
      (before_are (scored journal) hers.cells (scored_rise journal) long_hers i race at)
      (zip_take (Fits averaged) i (cells_of rules journal hers) ss fits))

  -- her score as the exclusions see it
  seen_at : (i race : ℕ) (cell : Cell) → CellAt journal hers i race cell →
      slice_get (scored_by ss (points ss)) i
      ≡ Some (record { points = cell.points; dne = (score_in race).dne })
  seen_at i race cell at =
      scored_at ss (points ss) i (score_in race) cell.points (score_at i race at.counts)
      (parts i race cell at).3

  cell_at : (race : ℕ) (cell : Cell) → Contains (cells_of rules journal hers) (race, cell) →
      (i : ℕ) × CellAt journal hers i race cell
  cell_at race cell has =
      let found = zip_contains (scored journal) hers.cells race cell has in
      (found.0, record { counts = found.1; hers = found.2 })

  cell_fits : (race : ℕ) (cell : Cell) → Contains (cells_of rules journal hers) (race, cell) →
      IsCellOf rules journal (work rules journal) hers race cell
  cell_fits race cell has =
      let found = cell_at race cell has in
      let i = found.0 in
      let at = found.1 in
      let worst = worst_are_excluded d (scored_by ss (points ss)) in
      record {
        unredressed = with_redress i race cell at None;
        a9_a = λ e. subst (IsAverage (own_points rules journal hers
            (λ other. not (nat_eq other race))) (plain_in race))
            (sym (with_redress i race cell at (Some AllRaces) e))
            (average_of_others i race at.counts);
        a9_b = λ e. subst (IsAverage (own_points rules journal hers
            (λ other. nat_lt other race)) (plain_in race))
            (sym (with_redress i race cell at (Some RacesBefore) e))
            (average_of_earlier i race at.counts);
        a9_c = λ points e. with_redress i race cell at (Some (Points points)) e;
        a10 = (parts i race cell at).2;
        dne_counts = λ kept. same_Some cell.dropped false (sym (parts i race cell at).1
            ∙ worst.no_dne i (record { points = cell.points; dne = (score_in race).dne })
            (seen_at i race cell at) (not_false (score_in race).dne kept));
      }

  -- an excluded score is worse than one that counts, or equal and earlier
  worse : (race other : ℕ) (cell kept : Cell) →
      Contains (cells_of rules journal hers) (race, cell) →
      Contains (cells_of rules journal hers) (other, kept) → cell.dropped ≡ true →
      kept.dropped ≡ false → is_excludable rules journal hers other ≡ true →
      (kept.points < cell.points) ⊎ ((kept.points ≡ cell.points) × (race < other))
  worse race other cell kept has_i has_j on off free =
      let at_i = cell_at race cell has_i in
      let at_j = cell_at other kept has_j in
      by at_i.0 at_j.0 at_i.1 at_j.1
      ((worst_are_excluded d (scored_by ss (points ss))).worst at_i.0 at_j.0
      (record { points = cell.points; dne = (score_in race).dne })
      (record { points = kept.points; dne = (score_in other).dne })
      (seen_at at_i.0 race cell at_i.1) (seen_at at_j.0 other kept at_j.1)
      ((parts at_i.0 race cell at_i.1).1 ∙ ap Some on)
      ((parts at_j.0 other kept at_j.1).1 ∙ ap Some off)
      (not_true (score_in other).dne free))
    where
      by : (i j : ℕ) → CellAt journal hers i race cell → CellAt journal hers j other kept →
          (kept.points < cell.points) ⊎ ((kept.points ≡ cell.points) × (i < j)) →
          (kept.points < cell.points) ⊎ ((kept.points ≡ cell.points) × (race < other))
      by i j at_i at_j (inl less) = inl less
      by i j at_i at_j (inr (same, apart)) =
          inr (
            same,
            rises_at (scored journal) (scored_rise journal) i j race other apart at_i.counts
                at_j.counts,
          )

  pub row_fits : IsRowOf rules journal (work rules journal) hers
  row_fits = record {
    a2_2 = long_hers;
    cells = cell_fits;
    as_many =
        (let flags = flags_of ss (points ss) fs long_ps long_fs in
        let dropped : count_by (λ (c : Cell). c.dropped) hers.cells ≡ count_by (λ b. b) fs =
        sym (count_by-map (λ b. b) (λ (c : Cell). c.dropped) hers.cells)
        ∙ ap (count_by (λ b. b)) flags in
        let free : count_by (λ (s : Scored). not s.dne) (scored_by ss (points ss))
        ≡ count_by (is_excludable rules journal hers) (scored journal) =
        free_count ss (points ss) long_ps
        ∙ count_by-map (λ (s : RaceScore). not s.dne) (λ race. score_of (outcome same_sail rules
        (journal_race rules journal race) boat)) (scored journal) in
        dropped ∙ (worst_are_excluded d (scored_by ss (points ss))).as_many
        ∙ (λ i. min (exclusions_of rules.thresholds (many i)) (free i)));
    worst = worse;
    total = ap sum (sym (her_cells rules journal boat).1);
  }
