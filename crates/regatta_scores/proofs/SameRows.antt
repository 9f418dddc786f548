-- The sentences of Appendix A on a boat's row leave no choice.
use Rattle.std.proofs.Common.{◌≡◌, ℕ, zero, suc, ◌+◌, ◌*◌, ◌<◌, ◌≤◌, Bool, true, false, cond}
use Rattle.std.proofs.Common.{not, ◌⊎◌, List, [], ◌∷◌, refl, ap, ◌∙◌, sym, subst, arith, length}
use Rattle.std.proofs.Common.{map, filter, zip, sum, count_by, slice_get, Some, nat_eq, nat_lt}
use Rattle.std.proofs.Common.{◌&&◌, Contains}
use Rattle.std.proofs.Common.{Option, None, mul-le-mul_left}
use mathlib.Core.Logic.{inl, inr}
use Rattle.std.specs.List.{AllZip}
use Rattle.std.specs.Cmp.{second_so}
use Rattle.std.proofs.lemmas.Bool.{cases_lt, true_from_ne_false}
use Rattle.std.proofs.lemmas.Option.{same_Some, slice_get_within}
use Rattle.regatta_terms.specs.Rules.{RulesParts}
use Rattle.regatta_terms.specs.declared.sail.Sail.{Sail}
use Rattle.regatta_terms.specs.declared.command.Redress as redress_type
use Rattle.regatta_terms.specs.declared.command.Redress.TheVariants.{Points, AllRaces, RacesBefore}
use Rattle.regatta_scores.specs.declared.table.Cell.{Cell}
use Rattle.regatta_scores.specs.declared.table.Row.{Row}
use Rattle.regatta_scores.specs.Journal.{Journal, same_sail, scored, held}
use Rattle.regatta_scores.specs.Marks.{mark_by}
use Rattle.regatta_scores.specs.Order.{stands_in}
use Rattle.regatta_scores.specs.RacePoints.{status_by}
use Rattle.regatta_scores.specs.RankLaws.{counting_points}
use Rattle.regatta_scores.specs.AppendixA.{Working, IsAverage, is_average, IsRowOf}
use Rattle.regatta_scores.specs.AppendixA.{cells_of, redress, is_excludable, own_points}
use Rattle.regatta_scores.proofs.Counts.{count_cons}
use Rattle.regatta_scores.proofs.RaceNumbers.{contains_zip}
use Rattle.regatta_scores.proofs.SameLists.{same_at_each}

-- ---- averages

nearest_le : (n s a b : ℕ) → 0 < n → 2 * n * a ≤ 2 * s + n → 2 * s < 2 * n * b + n → a ≤ b
nearest_le n s a b some above below = by (cases_lt b a)
  where
    by : (b < a) ⊎ (a ≤ b) → a ≤ b
    by (inl less) =
        let up : suc b ≤ a = omega (arith, less) in
        let more : 2 * n * suc b ≤ 2 * n * a = mul-le-mul_left (2 * n) up in
        let one : 2 * n * suc b ≡ 2 * n * b + 2 * n = omega arith in
        absurd (omega (arith, more, one, above, below, some))
    by (inr upto) = upto

pub average_same : (scores : List ℕ) (otherwise a b : ℕ) → IsAverage scores otherwise a →
    IsAverage scores otherwise b → a ≡ b
average_same scores otherwise a b p q = by (cases_lt 0 (length scores))
  where
    by : (0 < length scores) ⊎ (length scores ≤ 0) → a ≡ b
    by (inl some) =
        let n = length scores in
        let one = nearest_le n (sum scores) a b some (p.of_some some).not_above (q.of_some some).not_below in
        let two = nearest_le n (sum scores) b a some (q.of_some some).not_above (p.of_some some).not_below in
        omega (arith, one, two)
    by (inr none) =
        let zero_races : length scores ≡ 0 = omega (arith, none) in
        p.of_none zero_races ∙ sym (q.of_none zero_races)

-- ---- lists of races, each with a cell

pub not_true : (b : Bool) → not b ≡ true → b ≡ false
not_true true e = cc
not_true false e = refl

-- of the same race, and with the same points if the race passes the test
abbrev Alike : (ℕ → Bool) → ℕ × Cell → ℕ × Cell → Type 0
Alike passes r s = (r.0 ≡ s.0) × (passes r.0 ≡ true → r.1.points ≡ s.1.points)

points_same : (passes : ℕ → Bool) (rs ss : List (ℕ × Cell)) → AllZip (Alike passes) rs ss →
    map (λ r. r.1.points) (filter (λ r. passes r.0) rs)
    ≡ map (λ r. r.1.points) (filter (λ r. passes r.0) ss)
points_same passes [] [] each = refl
points_same passes [] (s ∷ ss) each = absurd each
points_same passes (r ∷ rs) [] each = absurd each
points_same passes (r ∷ rs) (s ∷ ss) each =
    by (passes r.0) refl (points_same passes rs ss each.1)
  where
    by : (b : Bool) → passes r.0 ≡ b →
        map (λ (x : ℕ × Cell). x.1.points) (filter (λ x. passes x.0) rs)
        ≡ map (λ (x : ℕ × Cell). x.1.points) (filter (λ x. passes x.0) ss) →
        map (λ (x : ℕ × Cell). x.1.points) (filter (λ x. passes x.0) (r ∷ rs))
        ≡ map (λ (x : ℕ × Cell). x.1.points) (filter (λ x. passes x.0) (s ∷ ss))
    by true e rest =
        let f : passes s.0 ≡ true = ap passes (sym each.0.0) ∙ e in
        let here = each.0.1 e in
        rw (e, f) (λ i. here i ∷ rest i)
    by false e rest =
        let f : passes s.0 ≡ false = ap passes (sym each.0.0) ∙ e in
        rw (e, f) rest

zip_alike : (passes : ℕ → Bool) (races : List ℕ) (cs ds : List Cell) →
    length cs ≡ length races → length ds ≡ length races →
    ((i race : ℕ) (c d : Cell) → slice_get races i ≡ Some race → slice_get cs i ≡ Some c →
    slice_get ds i ≡ Some d → passes race ≡ true → c.points ≡ d.points) →
    AllZip (Alike passes) (zip races cs) (zip races ds)
zip_alike passes [] cs ds e f each = tt
zip_alike passes (race ∷ races) [] ds e f each = absurd (omega (arith, e))
zip_alike passes (race ∷ races) (c ∷ cs) [] e f each = absurd (omega (arith, f))
zip_alike passes (race ∷ races) (c ∷ cs) (d ∷ ds) e f each = (
  (refl, each zero race c d refl refl refl),
  zip_alike passes races cs ds (omega (arith, e)) (omega (arith, f))
      (λ i r x y at_r at_x at_y. each (suc i) r x y at_r at_x at_y),
)

-- ---- as many pass a test in one list as in another

module _ {X : Type 0} (p : X → Bool) where
  -- at some place the first does not pass, and the second does
  abbrev OnlySecond : List X → List X → Type 0
  OnlySecond cs ds =
      (j : ℕ) × (c : X) × (d : X) × (slice_get cs j ≡ Some c) × (slice_get ds j ≡ Some d)
      × (p c ≡ false) × (p d ≡ true)

  next : (c d : X) (cs ds : List X) → OnlySecond cs ds → OnlySecond (c ∷ cs) (d ∷ ds)
  next c d cs ds found =
      (suc found.0, found.1, found.2, found.3, found.4, found.5, found.6)

  more_somewhere : (cs ds : List X) → length cs ≡ length ds → count_by p cs < count_by p ds →
      OnlySecond cs ds
  more_somewhere [] [] e fewer = absurd (omega (arith, fewer))
  more_somewhere [] (d ∷ ds) e fewer = absurd (omega (arith, e))
  more_somewhere (c ∷ cs) [] e fewer = absurd (omega (arith, e))
  more_somewhere (c ∷ cs) (d ∷ ds) e fewer =
      by (p c) (p d) refl refl (more_somewhere cs ds (omega (arith, e)))
    where
      by : (s t : Bool) → p c ≡ s → p d ≡ t →
          (count_by p cs < count_by p ds → OnlySecond cs ds) → OnlySecond (c ∷ cs) (d ∷ ds)
      by false true f g rest = (zero, c, d, refl, refl, f, g)
      by false false f g rest =
          let one : ◌≡◌ {A = ℕ} (cond (p c) 1 0) 0 = ap (λ b. cond b 1 0) f in
          let two : ◌≡◌ {A = ℕ} (cond (p d) 1 0) 0 = ap (λ b. cond b 1 0) g in
          next c d cs ds (rest (omega (arith, fewer, count_cons p c cs, count_cons p d ds, one, two)))
      by true t f g rest =
          let one : ◌≡◌ {A = ℕ} (cond (p c) 1 0) 1 = ap (λ b. cond b 1 0) f in
          let two : ◌≤◌ (cond (p d) 1 0) 1 = upto (p d) in
          next c d cs ds (rest (omega (arith, fewer, count_cons p c cs, count_cons p d ds, one, two)))
        where
          upto : (b : Bool) → ◌≤◌ (cond b 1 0) 1
          upto true = omega arith
          upto false = omega arith

  pub other_way : (cs ds : List X) → length cs ≡ length ds → count_by p cs ≤ count_by p ds →
      (i : ℕ) (c d : X) → slice_get cs i ≡ Some c → slice_get ds i ≡ Some d → p c ≡ true →
      p d ≡ false → OnlySecond cs ds
  other_way [] ds e upto i c d at_c at_d f g = cc
  other_way (x ∷ cs) [] e upto i c d at_c at_d f g = cc
  other_way (x ∷ cs) (y ∷ ds) e upto zero c d at_c at_d f g =
      let fx : p x ≡ true = ap p (same_Some x c at_c) ∙ f in
      let gy : p y ≡ false = ap p (same_Some y d at_d) ∙ g in
      let one : ◌≡◌ {A = ℕ} (cond (p x) 1 0) 1 = ap (λ b. cond b 1 0) fx in
      let two : ◌≡◌ {A = ℕ} (cond (p y) 1 0) 0 = ap (λ b. cond b 1 0) gy in
      next x y cs ds (more_somewhere cs ds (omega (arith, e))
      (omega (arith, upto, count_cons p x cs, count_cons p y ds, one, two)))
  other_way (x ∷ cs) (y ∷ ds) e upto (suc i) c d at_c at_d f g =
      by (p x) (p y) refl refl
      (λ h. other_way cs ds (omega (arith, e)) h i c d at_c at_d f g)
    where
      by : (s t : Bool) → p x ≡ s → p y ≡ t →
          (count_by p cs ≤ count_by p ds → OnlySecond cs ds) → OnlySecond (x ∷ cs) (y ∷ ds)
      by false true fx gy rest = (zero, x, y, refl, refl, fx, gy)
      by false false fx gy rest =
          let one : ◌≡◌ {A = ℕ} (cond (p x) 1 0) 0 = ap (λ b. cond b 1 0) fx in
          let two : ◌≡◌ {A = ℕ} (cond (p y) 1 0) 0 = ap (λ b. cond b 1 0) gy in
          next x y cs ds (rest (omega (arith, upto, count_cons p x cs, count_cons p y ds, one, two)))
      by true true fx gy rest =
          let one : ◌≡◌ {A = ℕ} (cond (p x) 1 0) 1 = ap (λ b. cond b 1 0) fx in
          let two : ◌≡◌ {A = ℕ} (cond (p y) 1 0) 1 = ap (λ b. cond b 1 0) gy in
          next x y cs ds (rest (omega (arith, upto, count_cons p x cs, count_cons p y ds, one, two)))
      by true false fx gy rest =
          let one : ◌≡◌ {A = ℕ} (cond (p x) 1 0) 1 = ap (λ b. cond b 1 0) fx in
          let two : ◌≡◌ {A = ℕ} (cond (p y) 1 0) 0 = ap (λ b. cond b 1 0) gy in
          next x y cs ds (rest (omega (arith, upto, count_cons p x cs, count_cons p y ds, one, two)))

pub get_within : {X : Type 0} (xs : List X) (i : ℕ) → i < length xs →
    (x : X) × (slice_get xs i ≡ Some x)
get_within [] i h = absurd (omega (arith, h))
get_within (x ∷ xs) zero h = (x, refl)
get_within (x ∷ xs) (suc i) h = get_within xs i (omega (arith, h))

-- ---- a row

abbrev pub with_sail : Sail → Row → Row
with_sail boat row = record row { sail = boat }

module _ (rules : RulesParts) (journal : Journal) (w v : Working) (a b : Row)
    (orders : (race : ℕ) → w.order race ≡ v.order race)
    (plains : (race : ℕ) (boat : Sail) → w.plain race boat ≡ v.plain race boat)
    (is_a : IsRowOf rules journal w a) (is_b : IsRowOf rules journal v (with_sail a.sail b)) where
  abbrev hers : Row
  hers = with_sail a.sail b

  both : (i race : ℕ) (c d : Cell) → slice_get (scored journal) i ≡ Some race →
      slice_get a.cells i ≡ Some c → slice_get b.cells i ≡ Some d →
      Contains (cells_of rules journal a) (race, c) × Contains (cells_of rules journal hers) (race, d)
  both i race c d at_race at_c at_d = (
    contains_zip (scored journal) a.cells i race c at_race at_c,
    contains_zip (scored journal) b.cells i race d at_race at_d,
  )

  averaged : ℕ → Bool
  averaged race = is_average (redress rules journal a race)

  own_same : (i race : ℕ) (c d : Cell) → slice_get (scored journal) i ≡ Some race →
      slice_get a.cells i ≡ Some c → slice_get b.cells i ≡ Some d → averaged race ≡ false →
      c.points ≡ d.points
  unfolding averaged
  own_same i race c d at_race at_c at_d own = by (redress rules journal a race) refl own
    where
      by : (o : Option redress_type.Redress) → redress rules journal a race ≡ o →
          is_average o ≡ false → c.points ≡ d.points
      by None e own =
          let at = both i race c d at_race at_c at_d in
          (is_a.cells race c at.0).unredressed e ∙ plains race a.sail
          ∙ sym ((is_b.cells race d at.1).unredressed e)
      by (Some (Points points)) e own =
          let at = both i race c d at_race at_c at_d in
          (is_a.cells race c at.0).a9_c points e ∙ sym ((is_b.cells race d at.1).a9_c points e)
      by (Some AllRaces) e own = cc
      by (Some RacesBefore) e own = cc

  -- her own points in the races that pass a test
  own_points_same : (test : ℕ → Bool) →
      own_points rules journal a test ≡ own_points rules journal hers test
  unfolding averaged
  own_points_same test =
      let passes = λ (race : ℕ). test race && not (averaged race) in
      points_same passes (cells_of rules journal a) (cells_of rules journal hers)
      (zip_alike passes (scored journal) a.cells b.cells is_a.a2_2 is_b.a2_2
      (λ i race c d at_race at_c at_d own. own_same i race c d at_race at_c at_d
      (not_true (averaged race) (second_so (test race) (not (averaged race)) own))))

  same_average : (scores others : List ℕ) (p q m n : ℕ) → scores ≡ others → p ≡ q →
      IsAverage scores p m → IsAverage others q n → m ≡ n
  same_average scores others p q m n e f is_m is_n =
      average_same scores p m n is_m
      (subst (λ o. IsAverage scores o n) (sym f) (subst (λ s. IsAverage s q n) (sym e) is_n))

  points_equal : (i race : ℕ) (c d : Cell) → slice_get (scored journal) i ≡ Some race →
      slice_get a.cells i ≡ Some c → slice_get b.cells i ≡ Some d → c.points ≡ d.points
  unfolding averaged
  points_equal i race c d at_race at_c at_d = by (redress rules journal a race) refl
    where
      at : Contains (cells_of rules journal a) (race, c)
          × Contains (cells_of rules journal hers) (race, d)
      at = both i race c d at_race at_c at_d

      own : (o : Option redress_type.Redress) → redress rules journal a race ≡ o →
          is_average o ≡ false → c.points ≡ d.points
      own o e is = own_same i race c d at_race at_c at_d (ap is_average e ∙ is)

      by : (o : Option redress_type.Redress) → redress rules journal a race ≡ o →
          c.points ≡ d.points
      by None e = own None e refl
      by (Some (Points points)) e = own (Some (Points points)) e refl
      by (Some AllRaces) e =
          let others = λ (other : ℕ). not (nat_eq other race) in
          same_average (own_points rules journal a others) (own_points rules journal hers others)
          (w.plain race a.sail) (v.plain race a.sail) c.points d.points (own_points_same others)
          (plains race a.sail) ((is_a.cells race c at.0).a9_a e) ((is_b.cells race d at.1).a9_a e)
      by (Some RacesBefore) e =
          let before = λ (other : ℕ). nat_lt other race in
          same_average (own_points rules journal a before) (own_points rules journal hers before)
          (w.plain race a.sail) (v.plain race a.sail) c.points d.points (own_points_same before)
          (plains race a.sail) ((is_a.cells race c at.0).a9_b e) ((is_b.cells race d at.1).a9_b e)

  -- a score that is excluded in one row alone
  not_alone : (i race : ℕ) (c d : Cell) → slice_get (scored journal) i ≡ Some race →
      slice_get a.cells i ≡ Some c → slice_get b.cells i ≡ Some d → c.dropped ≡ true →
      d.dropped ≡ false → (j other : ℕ) (x y : Cell) → slice_get (scored journal) j ≡ Some other →
      slice_get a.cells j ≡ Some x → slice_get b.cells j ≡ Some y → x.dropped ≡ false →
      y.dropped ≡ true → ⊥
  not_alone i race c d at_race at_c at_d on off j other x y at_other at_x at_y off_x on_y =
      let at_i = both i race c d at_race at_c at_d in
      let at_j = both j other x y at_other at_x at_y in
      let here = points_equal i race c d at_race at_c at_d in
      let there = points_equal j other x y at_other at_x at_y in
      let free_i : is_excludable rules journal a race ≡ true =
      true_from_ne_false _ (λ e. true_not_false (sym on ∙ (is_a.cells race c at_i.0).dne_counts e)) in
      let free_j : is_excludable rules journal a other ≡ true =
      true_from_ne_false _ (λ e. true_not_false (sym on_y ∙ (is_b.cells other y at_j.1).dne_counts e)) in
      clash (is_a.worst race other c x at_i.0 at_j.0 on off_x free_j)
      (is_b.worst other race y d at_j.1 at_i.1 on_y off free_i) here there
    where
      true_not_false : true ≡ false → ⊥
      true_not_false e = cc

      clash : (x.points < c.points) ⊎ ((x.points ≡ c.points) × (race < other)) →
          (d.points < y.points) ⊎ ((d.points ≡ y.points) × (other < race)) → c.points ≡ d.points →
          x.points ≡ y.points → ⊥
      clash (inl one) (inl two) here there = omega (arith, one, two, here, there)
      clash (inl one) (inr two) here there = omega (arith, one, two.0, here, there)
      clash (inr one) (inl two) here there = omega (arith, one.0, two, here, there)
      clash (inr one) (inr two) here there = omega (arith, one.1, two.1)

  long : length a.cells ≡ length b.cells
  long = is_a.a2_2 ∙ sym is_b.a2_2

  many : count_by (λ (cell : Cell). cell.dropped) a.cells
      ≡ count_by (λ (cell : Cell). cell.dropped) b.cells
  many = is_a.as_many ∙ sym is_b.as_many

  dropped_equal : (i race : ℕ) (c d : Cell) → slice_get (scored journal) i ≡ Some race →
      slice_get a.cells i ≡ Some c → slice_get b.cells i ≡ Some d → c.dropped ≡ d.dropped
  dropped_equal i race c d at_race at_c at_d = by c.dropped d.dropped refl refl
    where
      race_at : (j : ℕ) (x : Cell) → slice_get a.cells j ≡ Some x →
          (other : ℕ) × (slice_get (scored journal) j ≡ Some other)
      race_at j x at_x =
          get_within (scored journal) j
          (let within = slice_get_within a.cells j x at_x in omega (arith, within, is_a.a2_2))

      by : (s t : Bool) → c.dropped ≡ s → d.dropped ≡ t → c.dropped ≡ d.dropped
      by true true e f = e ∙ sym f
      by false false e f = e ∙ sym f
      by true false e f =
          let found = other_way (λ (cell : Cell). cell.dropped) a.cells b.cells long
          (omega (arith, many)) i c d at_c at_d e f in
          let other = race_at found.0 found.1 found.3 in
          absurd (not_alone i race c d at_race at_c at_d e f found.0 other.0 found.1 found.2
          other.1 found.3 found.4 found.5 found.6)
      by false true e f =
          let found = other_way (λ (cell : Cell). cell.dropped) b.cells a.cells (sym long)
          (omega (arith, many)) i d c at_d at_c f e in
          let other = race_at found.0 found.2 found.4 in
          absurd (not_alone found.0 other.0 found.2 found.1 other.1 found.4 found.3 found.6
          found.5 i race c d at_race at_c at_d e f)

  pub cells_equal : a.cells ≡ b.cells
  cells_equal =
      same_at_each (scored journal) a.cells b.cells is_a.a2_2 is_b.a2_2
      (λ i race c d at_race at_c at_d.
      let at = both i race c d at_race at_c at_d in
      let marks : c.mark ≡ d.mark =
      (is_a.cells race c at.0).a10 ∙ ap (λ o. mark_by (held journal race a.sail).redress
      (status_by (held journal race a.sail).code (stands_in same_sail a.sail o))
      (held journal race a.sail).zfp (held journal race a.sail).scp) (orders race)
      ∙ sym ((is_b.cells race d at.1).a10) in
      let points = points_equal i race c d at_race at_c at_d in
      let drops = dropped_equal i race c d at_race at_c at_d in
      λ k. record { points = points k; mark = marks k; dropped = drops k })

  pub nets_equal : a.net ≡ b.net
  nets_equal =
      is_a.total ∙ ap (λ cells. sum (counting_points cells)) cells_equal ∙ sym is_b.total
