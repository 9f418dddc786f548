-- A boat's points with redress, after one more score is read, and after all are.
use Rattle.std.proofs.Common.{◌≡◌, ℕ, zero, suc, ◌+◌, ◌<◌, ◌≤◌, true, false, cond, List, [], ◌∷◌}
use Rattle.std.proofs.Common.{◌++◌, refl, ap, ◌∙◌, sym, arith, length, All, append-nil, drop, get_or}
use Rattle.std.proofs.Common.{set, take, remove}
use Rattle.std.proofs.Math.Path.{subst}
use Rattle.std.specs.List.{enumerate_from}
use Rattle.std.proofs.lemmas.List.{length-set, length-take-le, length_push, take_more, take_all}
use Rattle.std.proofs.lemmas.List.{get_or-map, get_or_append_left, set-append_left, set_at, get_or_at}
use Rattle.std.proofs.lemmas.List.Elements.{All-push, All-tail, filter_more}
use Rattle.std.proofs.lemmas.List.FromFn.{length-enumerate_from, get_or-enumerate_from}
use Rattle.std.proofs.lemmas.List.Sums.{sum_by_push}
use Rattle.regatta_scores.specs.declared.boats.Averaged.{Averaged}
use Rattle.regatta_scores.specs.declared.boats.Averaged.TheVariants.{OverNone, OverAll, OverBefore}
use Rattle.regatta_scores.specs.declared.boats.RaceScore.{RaceScore}
use Rattle.regatta_scores.specs.declared.redressed.Counted.{Counted}
use Rattle.regatta_scores.specs.Averages.{average_over, is_own, points, redressed}
use Rattle.regatta_scores.specs.RedressLaws.{counted}
use Rattle.regatta_scores.specs.Redressing.{IsRead, average_or, averaged_at, is_over_all}
use Rattle.regatta_scores.proofs.AverageBounds.{total}
use Rattle.regatta_scores.proofs.Lengths.{long_points}
use Rattle.regatta_scores.proofs.SharedOut.{written_whole}

-- an average of all other races counts the races that one of all would count
counted_without : (xs : List RaceScore) (i : ℕ) (d : RaceScore) → i < length xs →
    is_own (get_or xs i d).averaged ≡ false → counted (remove xs i) ≡ counted xs
counted_without [] i d h none = absurd (omega (arith, h))
counted_without (x ∷ xs) zero d h none = sym (ap (λ b. cond b (x ∷ counted xs) (counted xs)) none)
counted_without (x ∷ xs) (suc i) d h none =
    ap (λ ys. cond (is_own x.averaged) (x ∷ ys) ys) (counted_without xs i d (omega (arith, h)) none)

-- averages are put in one by one, and none of them into a race that follows
in_one_more : (k t : ℕ) (ps races : List ℕ) (r : ℕ)
    → averaged_at k t ps (races ++ r ∷ []) ≡ averaged_at k t (averaged_at k t ps races) (r ∷ [])
in_one_more k t ps [] r = refl
in_one_more k t ps (q ∷ races) r =
    in_one_more k t (set ps q (average_or (get_or ps q 0) k t)) races r

followed : (k t n : ℕ) (ps races : List ℕ) (p : ℕ) → length ps ≡ n → All (λ r. r < n) races
    → averaged_at k t (ps ++ p ∷ []) races ≡ averaged_at k t ps races ++ p ∷ []
followed k t n ps [] p long low = refl
followed k t n ps (r ∷ races) p long low =
    let here : r < length ps = omega (arith, low 0 r (omega arith), long) in
    let new = average_or (get_or ps r 0) k t in
    ap (λ l. averaged_at k t l races)
    (ap (λ q. set (ps ++ p ∷ []) r (average_or q k t)) (get_or_append_left ps (p ∷ []) 0 r here)
    ∙ set-append_left ps (p ∷ []) r new here)
    ∙ followed k t n (set ps r new) races p (length-set ps r new ∙ long)
    (All-tail (λ q. q < n) r races low)

-- ---- one more score

module _ (scores : List RaceScore) (n : ℕ) (s : RaceScore) (h : n < length scores)
    (at : s ≡ get_or scores n s) where
  counted_more : counted (take (n + 1) scores)
      ≡ counted (take n scores) ++ cond (is_own s.averaged) (s ∷ []) []
  counted_more =
      filter_more (λ (x : RaceScore). is_own x.averaged) scores n s h
      ∙ ap (λ (x : RaceScore). counted (take n scores) ++ cond (is_own x.averaged) (x ∷ []) [])
      (sym at)

  points_more : take (n + 1) (points scores)
      ≡ take n (points scores) ++ redressed scores n s.points s.averaged ∷ []
  points_more =
      let f = λ (race : ℕ × RaceScore). redressed scores race.0 race.1.points race.1.averaged in
      let start : 0 + n ≡ n = omega arith in
      take_more (points scores) n 0 (omega (arith, h, long_points scores))
      ∙ ap (λ p. take n (points scores) ++ p ∷ [])
      (get_or-map f (enumerate_from 0 scores) n (0, s) 0
      (omega (arith, h, length-enumerate_from 0 scores))
      ∙ ap f (get_or-enumerate_from 0 scores n (0, s) h ∙ (λ i. (start i, sym at i))))

  module _ {ps all : List ℕ} {old : Counted} (is : IsRead scores n ps all old) where
    made_more : (p : ℕ) (qs : List ℕ) → qs ≡ ps ++ p ∷ []
        → averaged_at (length (counted scores)) (total (counted scores)) qs all
        ≡ take n (points scores) ++ p ∷ []
    made_more p qs made =
        let k = length (counted scores) in
        let t = total (counted scores) in
        ap (λ l. averaged_at k t l all) made ∙ followed k t n ps all p is.long is.within
        ∙ ap (λ l. l ++ p ∷ []) is.made

    long_more : (p : ℕ) (qs : List ℕ) → qs ≡ ps ++ p ∷ [] → length qs ≡ n + 1
    long_more p qs made = ap length made ∙ length_push ps p ∙ ap (λ k. k + 1) is.long

    -- one whose points are her own
    pub own_more : {qs : List ℕ} {new : Counted} → s.points ≤ 65535 → is_own s.averaged ≡ true
        → qs ≡ ps ++ s.points ∷ [] → new.number ≡ old.number + 1 → new.sum ≡ old.sum + s.points
        → IsRead scores (n + 1) qs all new
    own_more {qs} low own made number sum =
        let so_far = counted (take n scores) in
        let more : counted (take (n + 1) scores) ≡ so_far ++ s ∷ [] =
        counted_more ∙ ap (λ b. so_far ++ cond b (s ∷ []) []) own in
        record {
          made = made_more s.points qs made ∙ ap (λ p. take n (points scores) ++ p ∷ [])
              (by s.averaged own) ∙ sym points_more;
          long = long_more s.points qs made;
          within = λ i d k. omega (arith, is.within i d k);
          short = omega (arith, is.short);
          number = number ∙ ap (λ k. k + 1) is.number ∙ sym (ap length more ∙ length_push so_far s);
          sum = sum ∙ ap (λ t. t + s.points) is.sum
              ∙ sym (ap total more ∙ sum_by_push (λ (x : RaceScore). x.points) so_far s);
          few = omega (arith, number, is.few);
          small = omega (arith, number, sum, is.small, low);
        }
      where
        by : (a : Averaged) → is_own a ≡ true → s.points ≡ redressed scores n s.points a
        by OverNone e = refl
        by OverAll e = absurd (cc)
        by OverBefore e = absurd (cc)

    -- one whose points aren't
    average_more : {qs more : List ℕ} → is_own s.averaged ≡ false
        → averaged_at (length (counted scores)) (total (counted scores)) qs more
        ≡ take n (points scores) ++ redressed scores n s.points s.averaged ∷ []
        → length qs ≡ n + 1 → All (λ r. r < n + 1) more → length more ≤ n + 1
        → IsRead scores (n + 1) qs more old
    average_more none made long within short =
        let same : counted (take n scores) ≡ counted (take (n + 1) scores) =
        sym (counted_more ∙ ap (λ b. counted (take n scores) ++ cond b (s ∷ []) []) none
        ∙ append-nil (counted (take n scores))) in
        record {
          made = made ∙ sym points_more;
          long = long;
          within = within;
          short = short;
          number = is.number ∙ ap length same;
          sum = is.sum ∙ ap total same;
          few = omega (arith, is.few);
          small = is.small;
        }

    -- but an average over all other races
    pub all_more : {i : ℕ} {qs more : List ℕ} → is_own s.averaged ≡ false
        → is_over_all s.averaged ≡ true → i ≡ n → qs ≡ ps ++ s.points ∷ [] → more ≡ all ++ i ∷ []
        → IsRead scores (n + 1) qs more old
    all_more {i} {qs} {more} none h_all here made waiting =
        let k = length (counted scores) in
        let t = total (counted scores) in
        let so_far = take n (points scores) in
        let long : length so_far ≡ i =
        length-take-le n (points scores) (omega (arith, h, long_points scores)) ∙ sym here in
        average_more none
        (ap (averaged_at k t qs) waiting ∙ in_one_more k t qs all i
        ∙ ap (λ l. averaged_at k t l (i ∷ [])) (made_more s.points qs made)
        ∙ ap (λ p. set (so_far ++ s.points ∷ []) i (average_or p k t))
        (get_or_at so_far s.points [] 0 i long)
        ∙ set_at so_far s.points [] (average_or s.points k t) i long
        ∙ ap (λ p. so_far ++ p ∷ [])
        (ap (λ l. average_or s.points (length l) (total l)) (sym (counted_without scores n s h
        (ap (λ (x : RaceScore). is_own x.averaged) (sym at) ∙ none))) ∙ by s.averaged h_all))
        (long_more s.points qs made)
        (subst (All (λ r. r < n + 1)) (sym waiting)
        (All-push (λ r. r < n + 1) all i (λ j d b. omega (arith, is.within j d b))
        (omega (arith, here))))
        (omega (arith, ap length waiting, length_push all i, is.short))
      where
        by : (a : Averaged) → is_over_all a ≡ true
            → average_over (remove scores n) s.points ≡ redressed scores n s.points a
        by OverNone e = absurd (cc)
        by OverAll e = refl
        by OverBefore e = absurd (cc)

    -- or over the races before
    pub before_more : {p : ℕ} {qs : List ℕ} → is_own s.averaged ≡ false
        → is_over_all s.averaged ≡ false → p ≡ average_or s.points old.number old.sum
        → qs ≡ ps ++ p ∷ [] → IsRead scores (n + 1) qs all old
    before_more {p} {qs} none h_all hers made =
        average_more none
        (made_more p qs made ∙ ap (λ q. take n (points scores) ++ q ∷ [])
        (hers ∙ (λ i. average_or s.points (is.number i) (is.sum i)) ∙ by s.averaged none h_all))
        (long_more p qs made) (λ i d k. omega (arith, is.within i d k)) (omega (arith, is.short))
      where
        by : (a : Averaged) → is_own a ≡ false → is_over_all a ≡ false
            → average_over (take n scores) s.points ≡ redressed scores n s.points a
        by OverNone e f = absurd (cc)
        by OverAll e f = absurd (cc)
        by OverBefore e f = refl

-- ---- the averages over all races

-- they are put into the points of races that are there
pub within : {scores : List RaceScore} {n : ℕ} {ps all qs races : List ℕ} {found : Counted}
    → IsRead scores n ps all found → qs ≡ ps → races ≡ all → All (λ r. r < length qs) races
within {qs = qs} is e f =
    subst (All (λ r. r < length qs)) (sym f)
    (λ i d k. omega (arith, is.within i d k, is.long, ap length e))

-- so the list has her points once they are written back
pub put_back : (scores : List RaceScore) {ps all qs races new : List ℕ} {found : Counted}
    → IsRead scores (length scores) ps all found → qs ≡ ps → races ≡ all
    → new ≡ averaged_at found.number found.sum qs races
    → take (length ps) (new ++ drop (length new) ps) ≡ points scores
put_back scores {ps = ps} {new = new} is e f made =
    let n = length scores in
    let read : take n scores ≡ scores = take_all n scores (omega arith) in
    let hers : new ≡ points scores =
    made ∙ (λ i. averaged_at ((is.number ∙ ap (λ l. length (counted l)) read) i)
    ((is.sum ∙ ap (λ l. total (counted l)) read) i) (e i) (f i))
    ∙ is.made ∙ take_all n (points scores) (omega (arith, long_points scores)) in
    written_whole new ps (length ps) (ap length hers ∙ long_points scores ∙ sym is.long) ∙ hers
