-- A race scored in one walk has the scores of the definitions.
use Rattle.std.proofs.Common.{◌≡◌, ℕ, zero, suc, ◌+◌, ◌*◌, ◌/◌, ◌<◌, ◌≤◌, Bool, true, false, cond, List}
use Rattle.std.proofs.Common.{[], ◌∷◌, count_by}
use Rattle.std.proofs.Common.{refl, ap, ◌∙◌, sym, arith, length, map, get_or, nat_eq, max, min, All}
use Rattle.std.proofs.Common.{Option, Some, None, unwrap_or, is_some}
use Rattle.std.specs.List.{range_with_len}
use Rattle.std.proofs.lemmas.List.{ext_get_or, length-map}
use Rattle.std.proofs.lemmas.List.FromFn.{get_or-map-range_with_len, length-map-range_with_len}
use Rattle.std.proofs.lemmas.List.FromFn.{length-range_with_len}
use Rattle.regatta_terms.specs.Rules.{RulesParts}
use Rattle.regatta_terms.specs.declared.rules.Absent.TheVariants.{A52, A53}
use Rattle.regatta_scores.specs.declared.boats.RaceScore.{RaceScore}
use Rattle.regatta_scores.specs.declared.sheet.Held.{Held}
use Rattle.regatta_scores.specs.Journal.{holds_nothing}
use Rattle.regatta_scores.specs.Outcomes.{score_of}
use Rattle.regatta_scores.specs.PlacedPoints.{HasPlacedPoints, most_place_points, placed_points}
use Rattle.regatta_scores.specs.PlacedPoints.{number_came_with, plain_with, score_with}
use Rattle.regatta_scores.specs.RacePoints.{came, dnf as dnf_of, dnf_by, penalty_points, race_of, status}
use Rattle.regatta_scores.specs.RaceScores.{no_score, race_score, race_scores}
use Rattle.regatta_scores.specs.Sheet.{Sheet, nothing_held}
use Rattle.regatta_scores.specs.Walk.{bare_with, points_by, rescored, HasBareScores, IsRescored}
use Rattle.regatta_scores.proofs.BareScores.{nothing_is}
use Rattle.regatta_scores.proofs.Placed.{dnf_is_of, score_at}

-- under A5.2 the DNF score is one more than the boats entered
pub dnf_of_entered : (rules : RulesParts) (order : List (List ℕ)) (held : List Held) (n : ℕ)
    → rules.absent ≡ A52 → n ≡ length held → n + 1 ≡ dnf_of nat_eq rules (race_of order held)
dnf_of_entered rules order held n e f =
    let count = count_by (λ boat. came (status nat_eq (race_of order held) boat))
    (range_with_len 0 (length held)) in
    let long : n ≡ length (range_with_len 0 (length held)) =
    f ∙ sym (length-range_with_len 0 (length held)) in
    ap (λ m. m + 1) long
    ∙ ap (λ absent. dnf_by absent (length (range_with_len 0 (length held))) count) (sym e)

-- under A5.3 it is one more than those that came
pub dnf_of_came : (rules : RulesParts) (order : List (List ℕ)) (held : List Held)
    (placed : List (Option ℕ)) → HasPlacedPoints order held placed → (n : ℕ)
    → rules.absent ≡ A53 → n ≡ number_came_with held placed
    → n + 1 ≡ dnf_of nat_eq rules (race_of order held)
dnf_of_came rules order held placed has n e f =
    ap (λ m. m + 1) f
    ∙ ap (λ absent. dnf_by absent (length held) (number_came_with held placed)) (sym e)
    ∙ sym (dnf_is_of order held placed has rules)

-- her points for a place come back from her bare score
pub points_back : (entered : ℕ) (placed : Option ℕ) → points_by (bare_with entered placed) ≡ placed
points_back entered None = refl
points_back entered (Some points) = refl

-- a boat of the group has the score of its points, and another her old one
pub bare_given : (entered : ℕ) (t : Bool) (points : ℕ) (old : Option ℕ) →
    cond t (bare_with entered (Some points)) (bare_with entered old)
    ≡ bare_with entered (cond t (Some points) old)
bare_given entered true points old = refl
bare_given entered false points old = refl

no_worse : (b penalty c : ℕ) → penalty ≡ 0 → max b (min (b + 10 * penalty) c) ≡ b
no_worse b penalty c none = omega (arith, none)

no_penalty : (rules : RulesParts) (dnf : ℕ) → penalty_points rules dnf nothing_held ≡ 0
no_penalty rules dnf = none ((2 * dnf + 5) / 10) (unwrap_or rules.scp ((2 * dnf + 5) / 10))
  where
    none : (zfp scp : ℕ) → 0 * zfp + 0 * scp ≡ 0
    none zfp scp = omega arith

plain_of_nothing : (rules : RulesParts) (placed : Option ℕ) (entered dnf : ℕ) →
    plain_with rules nothing_held placed entered dnf ≡ unwrap_or placed (10 * (entered + 1))
plain_of_nothing rules None entered dnf =
    no_worse (10 * (entered + 1)) (penalty_points rules dnf nothing_held) (10 * dnf)
    (no_penalty rules dnf)
plain_of_nothing rules (Some points) entered dnf =
    no_worse points (penalty_points rules dnf nothing_held) (10 * dnf) (no_penalty rules dnf)

-- her bare score is her score if she holds nothing
bare_is : (rules : RulesParts) (placed : Option ℕ) (entered dnf : ℕ) →
    bare_with entered placed ≡ score_with rules nothing_held placed entered dnf
bare_is rules placed entered dnf = λ i. score_of (record {
  plain = sym (plain_of_nothing rules placed entered dnf) i;
  held = nothing_held;
  placed = is_some placed;
})

rescored_is : (rules : RulesParts) (held : Held) (placed : Option ℕ) (entered dnf : ℕ) →
    rescored rules entered dnf held (bare_with entered placed)
    ≡ score_with rules held placed entered dnf
rescored_is rules held placed entered dnf = by (holds_nothing held) refl
  where
    by : (b : Bool) → holds_nothing held ≡ b →
        cond b (bare_with entered placed)
        (score_with rules held (points_by (bare_with entered placed)) entered dnf)
        ≡ score_with rules held placed entered dnf
    by true e =
        bare_is rules placed entered dnf
        ∙ ap (λ h. score_with rules h placed entered dnf) (sym (nothing_is held e))
    by false e = ap (λ o. score_with rules held o entered dnf) (points_back entered placed)

-- a position in a list has one item, whatever stands beyond
pub same_default : {X : Type 0} (xs : List X) (i : ℕ) (d e : X) → i < length xs →
    get_or xs i d ≡ get_or xs i e
same_default [] i d e h = absurd (omega (arith, h))
same_default (x ∷ xs) zero d e h = refl
same_default (x ∷ xs) (suc i) d e h = same_default xs i d e (omega (arith, h))

mapped : {X Y : Type 0} (f : X → Y) (xs : List X) (i : ℕ) (d : X) →
    get_or (map f xs) i (f d) ≡ f (get_or xs i d)
mapped f [] i d = refl
mapped f (x ∷ xs) zero d = refl
mapped f (x ∷ xs) (suc i) d = mapped f xs i d

-- points for a place are no more than the most, before a group has its score and after
pub few_score : (entered points : ℕ) (score : RaceScore) → score ≡ bare_with entered (Some points)
    → points ≤ most_place_points → unwrap_or (points_by score) 0 ≤ most_place_points
few_score entered points score e few = rw e few

pub few_given : (t : Bool) (score old new : RaceScore) → new ≡ cond t score old
    → unwrap_or (points_by score) 0 ≤ most_place_points
    → unwrap_or (points_by old) 0 ≤ most_place_points
    → unwrap_or (points_by new) 0 ≤ most_place_points
few_given true score old new e few before = rw e few
few_given false score old new e few before = rw e before

-- no score in the list, nor the one beyond it, has more than the most points for a place
few_at : (scores : List RaceScore) (none : RaceScore) (boat : ℕ)
    → All (λ score. unwrap_or (points_by score) 0 ≤ most_place_points) scores
    → unwrap_or (points_by none) 0 ≤ most_place_points
    → unwrap_or (points_by (get_or scores boat none)) 0 ≤ most_place_points
few_at [] none boat all here = here
few_at (x ∷ xs) none zero all here = all zero none (omega arith)
few_at (x ∷ xs) none (suc boat) all here =
    few_at xs none boat (λ k d h. all (suc k) d (omega (arith, h))) here

module _ (order : List (List ℕ)) (held : List Held) (scores : List RaceScore)
    (bare : HasBareScores order held scores) where
  -- the points come back from the bare scores
  has_placed : HasPlacedPoints order held (map points_by scores)
  has_placed = record {
    one_each = length-map scores points_by ∙ bare.one_each;
    by_number = λ boat. mapped points_by scores boat (bare_with (length held) None)
        ∙ ap points_by (bare.by_number boat)
        ∙ points_back (length held) (placed_points (race_of order held) boat);
    few = λ boat. rw (mapped points_by scores boat (bare_with (length held) None))
        (few_at scores (bare_with (length held) None) boat bare.few (omega arith));
  }

-- the scores of the race
pub walked : (rules : RulesParts) (sheet : Sheet) (held : List Held) (old new : List RaceScore)
    (dnf : ℕ) → held ≡ sheet.held → HasBareScores sheet.order held old
    → dnf ≡ dnf_of nat_eq rules (race_of sheet.order held) → IsRescored rules dnf held old new
    → new ≡ race_scores rules sheet
walked rules sheet held old new dnf same bare is_dnf is =
    let n = length held in
    let placed = map points_by old in
    let has = has_placed sheet.order held old bare in
    let many : length new ≡ n = is.one_each ∙ bare.one_each in
    let dnf_is = is_dnf ∙ dnf_is_of sheet.order held placed has rules in
    let long : length (race_scores rules sheet) ≡ n =
    length-map-range_with_len (race_score rules sheet) 0 (length sheet.held) ∙ sym (ap length same) in
    ext_get_or no_score new (race_scores rules sheet) (many ∙ sym long) (λ boat below.
    (let within : boat < n = omega (arith, many, below) in
    let hers = get_or held boat nothing_held in
    let points = placed_points (race_of sheet.order held) boat in
    let old_is : get_or old boat no_score ≡ bare_with n points =
    same_default old boat no_score (bare_with n None) (omega (arith, bare.one_each, within))
    ∙ bare.by_number boat in
    let here : points ≡ get_or placed boat points =
    sym (has.by_number boat)
    ∙ same_default placed boat None points (omega (arith, has.one_each, within)) in
    is.each boat within ∙ ap (rescored rules n dnf hers) old_is
    ∙ rescored_is rules hers points n dnf
    ∙ score_at sheet held placed same has rules boat hers points dnf within
    (same_default held boat nothing_held hers within) here dnf_is
    ∙ sym (get_or-map-range_with_len (race_score rules sheet) 0 (length sheet.held) boat boat
    no_score (omega (arith, ap length same, within)) (omega arith))))
