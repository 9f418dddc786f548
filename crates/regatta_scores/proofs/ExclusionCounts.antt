-- How many scores are excluded, and which.
use Rattle.std.proofs.Common.{◌≡◌, ℕ, zero, suc, ◌+◌, ◌<◌, ◌≤◌, min, Bool, true, false, cond, not}
use Rattle.std.proofs.Common.{◌&&◌, ◌⊎◌, List, [], ◌∷◌, refl, ap, ◌∙◌, sym, arith, length, take}
use Rattle.std.proofs.Common.{drop, count_by, nat_lt, nat_le, Some, slice_get}
use mathlib.Core.Logic.{inl, inr}
use Rattle.std.specs.List.{enumerate_from}
use Rattle.std.specs.Option.{option_map, unwrap_or}
use Rattle.std.proofs.lemmas.List.{length-map}
use Rattle.std.proofs.lemmas.List.FromFn.{length-enumerate_from}
use Rattle.std.proofs.lemmas.Option.{slice_get-map}
use Rattle.std.specs.Cmp.{first_so, second_so}
use borrow.Author.Tests.{ltb-true, ltb-false, leb-true, leb-false, lt-ltb, le-leb, le-ltb, not-true}
use borrow.Author.Tests.{lt-leb}
use Rattle.std.proofs.lemmas.Bool.{not_from_false}
use Rattle.regatta_scores.specs.declared.boats.Scored.{Scored}
use Rattle.regatta_scores.specs.Exclusions.{excluded_ahead, excluded}
use Rattle.regatta_scores.specs.RankLaws.{WorstAreExcluded}
use Rattle.regatta_scores.proofs.Counts.{count_cons, count_by-map}
use Rattle.regatta_scores.proofs.Members.{lt_same, le_by, count_le, and_same, upto_one, second_not}

-- a score is excluded if it isn't a DNE (90.3(b)) and fewer than d are excluded before it
abbrev is_excluded : ℕ → List Scored → ℕ → Scored → Bool
is_excluded d scores i score = not score.dne && nat_lt (excluded_ahead scores i score.points) d

-- whether an excludable score is worse than some points, or at least as bad
abbrev worse : ℕ → Scored → Bool
worse mine s = not s.dne && nat_lt mine s.points

abbrev as_bad : ℕ → Scored → Bool
as_bad mine s = not s.dne && nat_le mine s.points

-- ---- one more score at the front

pub ahead_first : (x : Scored) (ys : List Scored) (mine : ℕ) →
    excluded_ahead (x ∷ ys) 0 mine ≡ count_by (worse mine) ys
ahead_first x ys mine =
    let back : count_by (worse mine) (drop (0 + 1) (x ∷ ys)) ≡ count_by (worse mine) ys = refl in
    let front : count_by (as_bad mine) (take 0 (x ∷ ys)) ≡ 0 = refl in
    omega (arith, front, back)

pub ahead_later : (x : Scored) (ys : List Scored) (k mine : ℕ) →
    excluded_ahead (x ∷ ys) (suc k) mine ≡ cond (as_bad mine x) 1 0 + excluded_ahead ys k mine
ahead_later x ys k mine =
    let front : count_by (as_bad mine) (take (suc k) (x ∷ ys))
    ≡ cond (as_bad mine x) 1 0 + count_by (as_bad mine) (take k ys) =
    count_cons (as_bad mine) x (take k ys) in
    let index : suc k + 1 ≡ suc (k + 1) = omega arith in
    let back : count_by (worse mine) (drop (suc k + 1) (x ∷ ys))
    ≡ count_by (worse mine) (drop (k + 1) ys) = rw index refl in
    omega (arith, front, back)

both : (dne : Bool) (p q : Bool) → (p ≡ true → q ≡ true) → (not dne && p) ≡ true →
    (not dne && q) ≡ true
both true p q h e = cc
both false p q h e = h e

worse_from_as_bad : (low high : ℕ) → low < high → (s : Scored) → as_bad high s ≡ true →
    worse low s ≡ true
worse_from_as_bad low high apart s =
    both s.dne (nat_le high s.points) (nat_lt low s.points)
    (λ e. let least = leb-true high s.points e in lt-ltb low s.points (omega (arith, least)))

as_bad_from_worse : (low high : ℕ) → low ≤ high → (s : Scored) → worse high s ≡ true →
    as_bad low s ≡ true
as_bad_from_worse low high upto s =
    both s.dne (nat_lt high s.points) (nat_le low s.points)
    (λ e. let least = ltb-true high s.points e in le-leb low s.points (omega (arith, least)))

worse_from_worse : (low high : ℕ) → low ≤ high → (s : Scored) → worse high s ≡ true →
    worse low s ≡ true
worse_from_worse low high upto s =
    both s.dne (nat_lt high s.points) (nat_lt low s.points)
    (λ e. let least = ltb-true high s.points e in lt-ltb low s.points (omega (arith, least)))

-- ---- how many are excluded ahead of a score

pub read : {X : Type 0} (x y d : X) → Some x ≡ Some y → x ≡ y
read x y d e = ap (λ o. unwrap_or o d) e

-- fewer scores are excluded before one that is worse than some points than there are scores worse
-- than those points
pub few_ahead : (ys : List Scored) (k : ℕ) (s : Scored) (mine : ℕ) → slice_get ys k ≡ Some s →
    s.dne ≡ false → mine < s.points → excluded_ahead ys k s.points + 1 ≤ count_by (worse mine) ys
few_ahead [] k s mine at excludable apart = cc
few_ahead (y ∷ ys) zero s mine at excludable apart =
    let one : y ≡ s = read y s s at in
    let counted : ◌≡◌ {A = ℕ} (cond (worse mine y) 1 0) 1 =
    rw one (rw (excludable, lt-ltb mine s.points apart) refl) in
    let fewer =
    count_le (worse s.points) (worse mine) (worse_from_worse mine s.points (omega arith)) ys in
    omega (arith, ahead_first y ys s.points, count_cons (worse mine) y ys, counted, fewer)
few_ahead (y ∷ ys) (suc k) s mine at excludable apart =
    let here = le_by (as_bad s.points y) (worse mine y) (worse_from_as_bad mine s.points apart y) in
    omega (
      arith,
      ahead_later y ys k s.points,
      count_cons (worse mine) y ys,
      here,
      few_ahead ys k s mine at excludable apart,
    )

never : (dne : Bool) → ◌≡◌ {A = ℕ} (cond (not dne && false) 1 0) 0
never true = refl
never false = refl

-- all scores worse than some points are excluded before a score that is no worse than those
many_ahead : (ys : List Scored) (k : ℕ) (s : Scored) (top mine : ℕ) → slice_get ys k ≡ Some s →
    s.points ≤ top → mine ≤ top → count_by (worse top) ys ≤ excluded_ahead ys k mine
many_ahead [] k s top mine at upto least = cc
many_ahead (y ∷ ys) zero s top mine at upto least =
    let one : y ≡ s = read y s s at in
    let not_worse : nat_lt top s.points ≡ false = le-ltb top s.points upto in
    let uncounted : ◌≡◌ {A = ℕ} (cond (worse top y) 1 0) 0 = rw one (rw not_worse (never s.dne)) in
    let fewer = count_le (worse top) (worse mine) (worse_from_worse mine top least) ys in
    omega (arith, ahead_first y ys mine, count_cons (worse top) y ys, uncounted, fewer)
many_ahead (y ∷ ys) (suc k) s top mine at upto least =
    let here = le_by (worse top y) (as_bad mine y) (as_bad_from_worse mine top least y) in
    omega (
      arith,
      ahead_later y ys k mine,
      count_cons (worse top) y ys,
      here,
      many_ahead ys k s top mine at upto least,
    )

-- of equal scores, more are excluded before the later one
more_ahead : (ys : List Scored) (i j : ℕ) (s : Scored) (mine : ℕ) → slice_get ys i ≡ Some s →
    s.points ≤ mine → j ≤ i → excluded_ahead ys j mine ≤ excluded_ahead ys i mine
more_ahead [] i j s mine at upto order = cc
more_ahead (y ∷ ys) zero zero s mine at upto order = omega arith
more_ahead (y ∷ ys) zero (suc j) s mine at upto order = absurd (omega arith)
more_ahead (y ∷ ys) (suc i) zero s mine at upto order =
    omega (
      arith,
      ahead_first y ys mine,
      ahead_later y ys i mine,
      many_ahead ys i s mine mine at upto (omega arith),
    )
more_ahead (y ∷ ys) (suc i) (suc j) s mine at upto order =
    omega (
      arith,
      ahead_later y ys i mine,
      ahead_later y ys j mine,
      more_ahead ys i j s mine at upto (omega arith),
    )

-- ---- counts over races and their positions

count_later : {X : Type 0} (p : ℕ × X → Bool) (n : ℕ) (ys : List X) →
    count_by p (enumerate_from (n + 1) ys) ≡ count_by (λ r. p (r.0 + 1, r.1)) (enumerate_from n ys)
count_later p n [] = refl
count_later p n (y ∷ ys) =
    omega (
      arith,
      count_cons p (n + 1, y) (enumerate_from (n + 1 + 1) ys),
      count_cons (λ r. p (r.0 + 1, r.1)) (n, y) (enumerate_from (n + 1) ys),
      count_later p (n + 1) ys,
    )

count_same : {X : Type 0} (p q : ℕ × X → Bool) (n : ℕ) (ys : List X) →
    ((k j : ℕ) (y : X) → j ≡ n + k → slice_get ys k ≡ Some y → p (j, y) ≡ q (j, y)) →
    count_by p (enumerate_from n ys) ≡ count_by q (enumerate_from n ys)
count_same p q n [] same = refl
count_same p q n (y ∷ ys) same =
    let here : ◌≡◌ {A = ℕ} (cond (p (n, y)) 1 0) (cond (q (n, y)) 1 0) =
    ap (λ b. cond b 1 0) (same 0 n y (omega arith) refl) in
    omega (
      arith,
      count_cons p (n, y) (enumerate_from (n + 1) ys),
      count_cons q (n, y) (enumerate_from (n + 1) ys),
      here,
      count_same p q (n + 1) ys (λ k j z e at. same (suc k) j z (omega (arith, e)) at),
    )

at_index : {X : Type 0} (ys : List X) (k j : ℕ) (y : X) → j ≡ 0 + k → slice_get ys k ≡ Some y →
    slice_get ys j ≡ Some y
at_index ys k j y index at = let same : j ≡ k = omega (arith, index) in ap (slice_get ys) same ∙ at

-- ---- how many are excluded

flagged : ℕ → List Scored → ℕ
flagged d scores = count_by (λ race. is_excluded d scores race.0 race.1) (enumerate_from 0 scores)

flagged_cons : (d : ℕ) (x : Scored) (ys : List Scored) →
    flagged d (x ∷ ys) ≡ cond (is_excluded d (x ∷ ys) 0 x) 1 0
    + count_by (λ race. is_excluded d (x ∷ ys) (race.0 + 1) race.1) (enumerate_from 0 ys)
unfolding flagged
flagged_cons d x ys =
    let p = λ (race : ℕ × Scored). is_excluded d (x ∷ ys) race.0 race.1 in
    omega (arith, count_cons p (0, x) (enumerate_from (0 + 1) ys), count_later p 0 ys)

as_bad_no : (mine : ℕ) (s : Scored) → s.points < mine → ◌≡◌ {A = ℕ} (cond (as_bad mine s) 1 0) 0
as_bad_no mine s below = rw (lt-leb mine s.points below) (never s.dne)

as_bad_yes : (mine : ℕ) (s : Scored) → s.dne ≡ false → mine ≤ s.points →
    ◌≡◌ {A = ℕ} (cond (as_bad mine s) 1 0) 1
as_bad_yes mine s excludable upto = rw (excludable, le-leb mine s.points upto) refl

-- the number excluded before a score, after a score is added at the front
ahead_behind : (x : Scored) (ys : List Scored) (j mine : ℕ) →
    excluded_ahead (x ∷ ys) (j + 1) mine ≡ cond (as_bad mine x) 1 0 + excluded_ahead ys j mine
ahead_behind x ys j mine =
    let index : j + 1 ≡ suc j = omega arith in
    ap (λ n. excluded_ahead (x ∷ ys) n mine) index ∙ ahead_later x ys j mine

-- a DNE at the front doesn't change which later scores are excluded
behind_dne : (d : ℕ) (x : Scored) (ys : List Scored) → x.dne ≡ true → (j : ℕ) (y : Scored) →
    is_excluded d (x ∷ ys) (j + 1) y ≡ is_excluded d ys j y
behind_dne d x ys dne j y =
    let uncounted : ◌≡◌ {A = ℕ} (cond (as_bad y.points x) 1 0) 0 = rw dne refl in
    let ahead : excluded_ahead (x ∷ ys) (j + 1) y.points ≡ excluded_ahead ys j y.points =
    omega (arith, ahead_behind x ys j y.points, uncounted) in
    ap (λ n. not y.dne && nat_lt n d) ahead

-- nor does a score at the front that isn't excluded
counting_by : (d : ℕ) (x : Scored) (ys : List Scored) (j : ℕ) (y : Scored) (b : Bool) →
    nat_le y.points x.points ≡ b → d ≤ count_by (worse x.points) ys → slice_get ys j ≡ Some y →
    excluded_ahead ys j y.points < d →
    cond (as_bad y.points x) 1 0 + excluded_ahead ys j y.points < d
counting_by d x ys j y true e many at h =
    let upto = leb-true y.points x.points e in
    let ahead = many_ahead ys j y x.points y.points at upto upto in
    absurd (omega (arith, ahead, many))
counting_by d x ys j y false e many at h =
    let none = as_bad_no y.points x (leb-false y.points x.points e) in
    omega (arith, none)

behind_counting : (d : ℕ) (x : Scored) (ys : List Scored) → d ≤ count_by (worse x.points) ys →
    (j : ℕ) (y : Scored) → slice_get ys j ≡ Some y →
    is_excluded d (x ∷ ys) (j + 1) y ≡ is_excluded d ys j y
behind_counting d x ys many j y at =
    let ahead = ahead_behind x ys j y.points in
    let same : nat_lt (excluded_ahead (x ∷ ys) (j + 1) y.points) d
    ≡ nat_lt (excluded_ahead ys j y.points) d =
    lt_same (excluded_ahead (x ∷ ys) (j + 1) y.points) d (excluded_ahead ys j y.points) d
    (λ h. omega (arith, h, ahead))
    (λ h. let more = counting_by d x ys j y (nat_le y.points x.points) refl many at h in
    omega (arith, ahead, more)) in
    ap (λ b. not y.dne && b) same

-- if a score at the front is excluded, one fewer of the later ones is
excluded_by : (e : ℕ) (x : Scored) (ys : List Scored) (j : ℕ) (y : Scored) (b : Bool) →
    nat_le y.points x.points ≡ b → x.dne ≡ false → y.dne ≡ false →
    count_by (worse x.points) ys ≤ e → slice_get ys j ≡ Some y →
    cond (as_bad y.points x) 1 0 + excluded_ahead ys j y.points < suc e →
    excluded_ahead ys j y.points < e
excluded_by e x ys j y true le front excludable few at h =
    let one = as_bad_yes y.points x front (leb-true y.points x.points le) in
    omega (arith, one)
excluded_by e x ys j y false le front excludable few at h =
    let fewer = few_ahead ys j y x.points at excludable (leb-false y.points x.points le) in
    omega (arith, fewer, few)

behind_excluded : (e : ℕ) (x : Scored) (ys : List Scored) → x.dne ≡ false →
    count_by (worse x.points) ys ≤ e → (j : ℕ) (y : Scored) → slice_get ys j ≡ Some y →
    is_excluded (suc e) (x ∷ ys) (j + 1) y ≡ is_excluded e ys j y
behind_excluded e x ys front few j y at =
    let ahead = ahead_behind x ys j y.points in
    and_same (not y.dne) (nat_lt (excluded_ahead (x ∷ ys) (j + 1) y.points) (suc e))
    (nat_lt (excluded_ahead ys j y.points) e)
    (λ free. let excludable = not-true y.dne free in lt_same (excluded_ahead (x ∷ ys) (j + 1) y.points) (suc e)
    (excluded_ahead ys j y.points) e
    (λ h. excluded_by e x ys j y (nat_le y.points x.points) refl front excludable few at
    (omega (arith, h, ahead))) (λ h. omega (arith, h, ahead, upto_one (as_bad y.points x))))

worse_are_excludable : (mine : ℕ) (ys : List Scored) →
    count_by (worse mine) ys ≤ count_by (λ s. not s.dne) ys
worse_are_excludable mine ys =
    count_le (worse mine) (λ s. not s.dne) (λ s e. first_so (not s.dne) (nat_lt mine s.points) e) ys

flagged_by : (d : ℕ) (x : Scored) (ys : List Scored) →
    ((e : ℕ) → flagged e ys ≡ min e (count_by (λ s. not s.dne) ys)) → (dne b : Bool) → x.dne ≡ dne →
    nat_lt (count_by (worse x.points) ys) d ≡ b →
    flagged d (x ∷ ys) ≡ min d (count_by (λ s. not s.dne) (x ∷ ys))
unfolding flagged
flagged_by d x ys rest true b dne e =
    let head : ◌≡◌ {A = ℕ} (cond (is_excluded d (x ∷ ys) 0 x) 1 0) 0 = rw dne refl in
    let more : ◌≡◌ {A = ℕ} (cond (not x.dne) 1 0) 0 = rw dne refl in
    let behind =
    count_same (λ race. is_excluded d (x ∷ ys) (race.0 + 1) race.1)
    (λ race. is_excluded d ys race.0 race.1) 0 ys (λ k j y at e. behind_dne d x ys dne j y) in
    omega (arith, flagged_cons d x ys, head, more, behind, rest d, count_cons (λ s. not s.dne) x ys)
flagged_by d x ys rest false false dne e =
    let many : d ≤ count_by (worse x.points) ys = ltb-false (count_by (worse x.points) ys) d e in
    let first : nat_lt (excluded_ahead (x ∷ ys) 0 x.points) d ≡ false =
    ap (λ n. nat_lt n d) (ahead_first x ys x.points) ∙ e in
    let head : ◌≡◌ {A = ℕ} (cond (is_excluded d (x ∷ ys) 0 x) 1 0) 0 = rw (dne, first) refl in
    let more : ◌≡◌ {A = ℕ} (cond (not x.dne) 1 0) 1 = rw dne refl in
    let behind =
    count_same (λ race. is_excluded d (x ∷ ys) (race.0 + 1) race.1)
    (λ race. is_excluded d ys race.0 race.1) 0 ys
    (λ k j y index at. behind_counting d x ys many j y (at_index ys k j y index at)) in
    omega (
      arith,
      flagged_cons d x ys,
      head,
      more,
      behind,
      rest d,
      count_cons (λ s. not s.dne) x ys,
      many,
      worse_are_excludable x.points ys,
    )
flagged_by zero x ys rest false true dne e = let below =
    ltb-true (count_by (worse x.points) ys) 0 e in absurd (omega (arith, below))
flagged_by (suc d) x ys rest false true dne e =
    let below = ltb-true (count_by (worse x.points) ys) (suc d) e in
    let few : count_by (worse x.points) ys ≤ d = omega (arith, below) in
    let first : nat_lt (excluded_ahead (x ∷ ys) 0 x.points) (suc d) ≡ true =
    ap (λ n. nat_lt n (suc d)) (ahead_first x ys x.points) ∙ e in
    let head : ◌≡◌ {A = ℕ} (cond (is_excluded (suc d) (x ∷ ys) 0 x) 1 0) 1 = rw (dne, first) refl in
    let more : ◌≡◌ {A = ℕ} (cond (not x.dne) 1 0) 1 = rw dne refl in
    let behind =
    count_same (λ race. is_excluded (suc d) (x ∷ ys) (race.0 + 1) race.1)
    (λ race. is_excluded d ys race.0 race.1) 0 ys
    (λ k j y index at. behind_excluded d x ys dne few j y (at_index ys k j y index at)) in
    omega (
      arith,
      flagged_cons (suc d) x ys,
      head,
      more,
      behind,
      rest d,
      count_cons (λ s. not s.dne) x ys,
    )

flagged_is : (scores : List Scored) (d : ℕ) →
    flagged d scores ≡ min d (count_by (λ s. not s.dne) scores)
unfolding flagged
flagged_is [] d = omega arith
flagged_is (x ∷ ys) d =
    flagged_by d x ys (flagged_is ys) x.dne (nat_lt (count_by (worse x.points) ys) d) refl refl

-- ---- which are excluded

pub enumerate_at : {X : Type 0} (n : ℕ) (xs : List X) (i j : ℕ) (x : X) → j ≡ n + i →
    slice_get xs i ≡ Some x → slice_get (enumerate_from n xs) i ≡ Some (j, x)
enumerate_at n [] i j x index at = cc
enumerate_at n (y ∷ ys) zero j x index at =
    let first : n ≡ j = omega (arith, index) in
    λ i. Some (first i, read y x x at i)
enumerate_at n (y ∷ ys) (suc i) j x index at =
    enumerate_at (n + 1) ys i j x (omega (arith, index)) at

flag_at : (d : ℕ) (scores : List Scored) (i : ℕ) (s : Scored) → slice_get scores i ≡ Some s →
    slice_get (excluded d scores) i ≡ Some (is_excluded d scores i s)
flag_at d scores i s at =
    let flag = λ (race : ℕ × Scored). is_excluded d scores race.0 race.1 in
    slice_get-map flag (enumerate_from 0 scores) i
    ∙ ap (option_map flag) (enumerate_at 0 scores i i s (omega arith) at)

worst_by : (scores : List Scored) (i j : ℕ) (s t : Scored) → slice_get scores i ≡ Some s →
    slice_get scores j ≡ Some t → t.dne ≡ false →
    excluded_ahead scores i s.points < excluded_ahead scores j t.points →
    (b c : Bool) → nat_lt t.points s.points ≡ b → nat_lt i j ≡ c →
    (t.points < s.points) ⊎ ((t.points ≡ s.points) × (i < j))
worst_by scores i j s t at_i at_j free apart true c worse earlier =
    inl (ltb-true t.points s.points worse)
worst_by scores i j s t at_i at_j free apart false c worse earlier =
    by (nat_lt s.points t.points) c refl earlier
  where
    by : (b c : Bool) → nat_lt s.points t.points ≡ b → nat_lt i j ≡ c →
        (t.points < s.points) ⊎ ((t.points ≡ s.points) × (i < j))
    by true c higher earlier =
        let fewer = few_ahead scores j t s.points at_j free (ltb-true s.points t.points higher) in
        let many = many_ahead scores i s s.points s.points at_i (omega arith) (omega arith) in
        absurd (omega (arith, fewer, many, apart))
    by false true higher earlier =
        let upto = ltb-false t.points s.points worse in
        let back = ltb-false s.points t.points higher in
        inr (omega (arith, upto, back), ltb-true i j earlier)
    by false false higher earlier =
        let upto = ltb-false t.points s.points worse in
        let back = ltb-false s.points t.points higher in
        let equal : t.points ≡ s.points = omega (arith, upto, back) in
        let same : excluded_ahead scores j t.points ≡ excluded_ahead scores j s.points =
        ap (excluded_ahead scores j) equal in
        let more = more_ahead scores i j s s.points at_i (omega arith) (ltb-false i j earlier) in
        absurd (omega (arith, same, more, apart))

pub worst_are_excluded : WorstAreExcluded
unfolding flagged
worst_are_excluded d scores =
    let flag = λ (race : ℕ × Scored). is_excluded d scores race.0 race.1 in
    let long : length (excluded d scores) ≡ length (enumerate_from 0 scores) =
    length-map (enumerate_from 0 scores) flag in
    let count : count_by (λ b. b) (excluded d scores) ≡ flagged d scores =
    count_by-map (λ b. b) flag (enumerate_from 0 scores) in
    record {
      one_for_each = long ∙ length-enumerate_from 0 scores;
      as_many = count ∙ flagged_is scores d;
      no_dne = λ i s at dne. let off : is_excluded d scores i s ≡ false = rw dne refl in
          flag_at d scores i s at ∙ ap Some off;
      worst = λ i j s t at_i at_j flag_i flag_j free.
          let on : is_excluded d scores i s ≡ true =
          read (is_excluded d scores i s) true true (sym (flag_at d scores i s at_i) ∙ flag_i) in
          let off : is_excluded d scores j t ≡ false =
          read (is_excluded d scores j t) false true (sym (flag_at d scores j t at_j) ∙ flag_j) in
          let below =
          ltb-true (excluded_ahead scores i s.points) d
          (second_so (not s.dne) (nat_lt (excluded_ahead scores i s.points) d) on) in
          let above =
          ltb-false (excluded_ahead scores j t.points) d
          (second_not (not t.dne) (nat_lt (excluded_ahead scores j t.points) d)
          (not_from_false t.dne free) off) in
          worst_by scores i j s t at_i at_j free (omega (arith, below, above))
          (nat_lt t.points s.points) (nat_lt i j) refl refl;
    }
