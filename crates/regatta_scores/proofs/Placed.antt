-- The points for each boat's place give the number of boats that came, and the points of the
-- definitions.
use Rattle.std.proofs.Common.{◌≡◌, ℕ, Bool, true, false, cond, List, refl, ap, ◌∙◌, sym, length}
use Rattle.std.proofs.Common.{count_by, Option, Some, None, is_some, unwrap_or}
use Rattle.std.proofs.Common.{nat_eq, get_or, min, max, ◌+◌, ◌*◌, ◌<◌, ◌++◌, [], ◌∷◌, map, take, arith, All}
use Rattle.std.specs.List.{range_with_len, enumerate_from}
use Rattle.std.proofs.lemmas.List.{get_or-map, get_or_read, get_or_read_under, length-map, map-append}
use Rattle.std.proofs.lemmas.List.{take_more}
use Rattle.std.proofs.lemmas.List.Elements.{All-map}
use Rattle.std.proofs.Math.Path.{subst}
use Rattle.std.proofs.lemmas.List.FromFn.{get_or-enumerate_from, length-enumerate_from}
use Rattle.std.proofs.lemmas.List.FromFn.{length-range_with_len}
use Rattle.regatta_terms.specs.Rules.{RulesParts}
use Rattle.regatta_terms.specs.declared.command.Code.{Code}
use Rattle.regatta_terms.specs.declared.command.Code.TheVariants as code
use Rattle.regatta_scores.specs.declared.sheet.Held.{Held}
use Rattle.regatta_scores.specs.Order.{stands_in}
use Rattle.regatta_scores.specs.Sheet.{Sheet, nothing_held}
use Rattle.regatta_scores.specs.RacePoints.{race_of, status, status_by, came, place_points}
use Rattle.regatta_scores.specs.RacePoints.{dnf_by, dnf as dnf_of, base_by, plain, penalty_points}
use Rattle.regatta_scores.specs.Details.{PlacedGroup, base, placed_group, placed_groups}
use Rattle.regatta_scores.specs.Details.{race_basis, scoring, scoring_with}
use Rattle.regatta_scores.specs.Details.{sheet_group, status_code, twenty_percent_of}
use Rattle.regatta_scores.specs.declared.details.RaceBasis.{RaceBasis}
use Rattle.regatta_scores.specs.declared.details.SheetGroup.{SheetGroup}
use Rattle.regatta_scores.specs.Outcomes.{score_of}
use Rattle.regatta_scores.specs.RaceScores.{race_score}
use Rattle.regatta_scores.specs.PlacedPoints.{HasPlacedPoints, placed_points, came_with, dnf_with}
use Rattle.regatta_scores.specs.PlacedPoints.{number_came_with, plain_with, score_with}

is_some_by : (b : Bool) (n : ℕ) → is_some (cond b (Some n) None) ≡ b
is_some_by true n = refl
is_some_by false n = refl

base_by_placed : (o : Option Code) (b : Bool) (n entered dnf : ℕ) →
    base_by (status_by o b) n entered dnf
    ≡ base_by (status_by o (is_some (cond b (Some n) None))) (unwrap_or (cond b (Some n) None) 0)
    entered dnf
base_by_placed (Some code.Dnc) b n entered dnf = refl
base_by_placed (Some other) b n entered dnf = refl
base_by_placed None true n entered dnf = refl
base_by_placed None false n entered dnf = refl

module _ (order : List (List ℕ)) (held : List Held) (placed : List (Option ℕ))
    (is : HasPlacedPoints order held placed) where
  came_is : (boat : ℕ) → came_with (get_or held boat nothing_held) (get_or placed boat None)
      ≡ came (status nat_eq (race_of order held) boat)
  came_is boat =
      ap (λ o. came_with (get_or held boat nothing_held) o) (is.by_number boat)
      ∙ ap (λ b. came (status_by (get_or held boat nothing_held).code b))
      (is_some_by (stands_in nat_eq boat order) (place_points nat_eq (race_of order held) boat))

  -- how many of the boats entered came to the starting area (A5.3)
  abbrev number_came : ℕ
  number_came =
      count_by (λ boat. came (status nat_eq (race_of order held) boat))
      (range_with_len 0 (length held))

  number_came_is : number_came_with held placed ≡ number_came
  number_came_is i = count_by (λ boat. came_is boat i) (range_with_len 0 (length held))

  plain_is : (rules : RulesParts) (boat : ℕ) → plain nat_eq rules (race_of order held) boat
      ≡ plain_with rules (get_or held boat nothing_held) (get_or placed boat None) (length held)
      (dnf_by rules.absent (length held) (number_came_with held placed))
  plain_is rules boat =
      let hers = get_or held boat nothing_held in
      let stands = stands_in nat_eq boat order in
      let points = place_points nat_eq (race_of order held) boat in
      let by_place : plain nat_eq rules (race_of order held) boat
      ≡ plain_with rules hers (placed_points (race_of order held) boat) (length held)
      (dnf_by rules.absent (length held) number_came)
      = (λ i. (let entered = length-range_with_len 0 (length held) i in let dnf =
      dnf_by rules.absent entered number_came in
      let base = base_by_placed hers.code stands points entered dnf i in
      max base (min (base + 10 * penalty_points rules dnf hers) (10 * dnf)))) in
      by_place ∙ sym (λ i. plain_with rules hers (is.by_number boat i) (length held)
      (dnf_by rules.absent (length held) (number_came_is i)))

  base_is : (rules : RulesParts) (boat : ℕ) → base nat_eq rules (race_of order held) boat
      ≡ base_by
      (status_by (get_or held boat nothing_held).code (is_some (get_or placed boat None)))
      (unwrap_or (get_or placed boat None) 0) (length held)
      (dnf_by rules.absent (length held) (number_came_with held placed))
  base_is rules boat =
      let hers = get_or held boat nothing_held in
      let stands = stands_in nat_eq boat order in
      let points = place_points nat_eq (race_of order held) boat in
      let place = placed_points (race_of order held) boat in
      let by_place : base nat_eq rules (race_of order held) boat
      ≡ base_by (status_by hers.code (is_some place)) (unwrap_or place 0) (length held)
      (dnf_by rules.absent (length held) number_came)
      = (λ i. (let entered = length-range_with_len 0 (length held) i in
      base_by_placed hers.code stands points entered (dnf_by rules.absent entered number_came)
      i)) in
      by_place ∙ sym (λ i. (let o = is.by_number boat i in
      base_by (status_by hers.code (is_some o)) (unwrap_or o 0) (length held)
      (dnf_by rules.absent (length held) (number_came_is i))))

  -- the DNF score of the definitions (A5.2, A5.3)
  pub dnf_is_of : (rules : RulesParts)
      → dnf_of nat_eq rules (race_of order held) ≡ dnf_with rules held placed
  dnf_is_of rules =
      λ i. dnf_by rules.absent (length-range_with_len 0 (length held) i) (sym number_came_is i)

  -- and how many came (A5.3)
  pub came_is_of : number_came_with held placed ≡ number_came
  came_is_of = number_came_is

  -- she has points for a place if and only if she is in the order
  stands_is : (boat : ℕ) → stands_in nat_eq boat order ≡ is_some (get_or placed boat None)
  stands_is boat =
      sym (ap is_some (is.by_number boat)
      ∙ is_some_by (stands_in nat_eq boat order) (place_points nat_eq (race_of order held) boat))

-- what one boat of a sheet holds, her points for a place, and the DNF score
module _ (sheet : Sheet) (held : List Held) (placed : List (Option ℕ)) (same : held ≡ sheet.held)
    (is : HasPlacedPoints sheet.order held placed) (rules : RulesParts) (boat : ℕ) (hers : Held)
    (points : Option ℕ) (dnf : ℕ) (within : boat < length held)
    (held_is : hers ≡ get_or held boat hers) (placed_is : points ≡ get_or placed boat points)
    (dnf_is : dnf ≡ dnf_with rules held placed) where
  hers_at : hers ≡ get_or held boat nothing_held
  hers_at = get_or_read held boat hers within held_is nothing_held

  points_at : points ≡ get_or placed boat None
  points_at = get_or_read_under placed boat _ points None placed_is within (sym is.one_each)

  pub plain_at : plain_with rules hers points (length held) dnf
      ≡ plain nat_eq rules (race_of sheet.order sheet.held) boat
  plain_at = (λ i. plain_with rules (hers_at i) (points_at i) (length held) (dnf_is i))
      ∙ sym (plain_is sheet.order held placed is rules boat)
      ∙ (λ i. plain nat_eq rules (race_of sheet.order (same i)) boat)

  pub score_at : score_with rules hers points (length held) dnf ≡ race_score rules sheet boat
  score_at =
      let holds = hers_at ∙ ap (λ all. get_or all boat nothing_held) same in
      let stands = ap is_some points_at ∙ sym (stands_is sheet.order held placed is boat) in
      λ i. score_of (record { plain = plain_at i; held = holds i; placed = stands i })

  base_at : base_by (status_by hers.code (is_some points)) (unwrap_or points 0) (length held) dnf
      ≡ base nat_eq rules (race_of sheet.order sheet.held) boat
  base_at =
      (λ i. base_by (status_by (hers_at i).code (is_some (points_at i))) (unwrap_or (points_at i) 0)
      (length held) (dnf_is i))
      ∙ sym (base_is sheet.order held placed is rules boat)
      ∙ (λ i. base nat_eq rules (race_of sheet.order (same i)) boat)

  -- her score in its parts
  pub scoring_at : scoring_with rules hers points (length held) dnf
      ≡ scoring nat_eq rules (race_of sheet.order sheet.held) boat
  scoring_at =
      let holds = hers_at ∙ ap (λ all. get_or all boat nothing_held) same in
      let stands = ap is_some points_at ∙ sym (stands_is sheet.order held placed is boat) in
      let here : dnf ≡ dnf_of nat_eq rules (race_of sheet.order sheet.held) =
      dnf_is ∙ sym (dnf_is_of sheet.order held placed is rules)
      ∙ (λ i. dnf_of nat_eq rules (race_of sheet.order (same i))) in
      λ i. record {
        status = status_code (status_by (holds i).code (stands i));
        came = came (status_by (holds i).code (stands i));
        held = holds i;
        base = base_at i;
        penalty = penalty_points rules (here i) (holds i);
        plain = plain_at i;
        score = score_at i;
      }

-- what the race is scored by, from its parts
pub basis_at : (sheet : Sheet) (held : List Held) (placed : List (Option ℕ))
    → held ≡ sheet.held → HasPlacedPoints sheet.order held placed → (rules : RulesParts)
    → (entered came dnf part : ℕ) → entered ≡ length held → came ≡ number_came_with held placed
    → dnf ≡ dnf_with rules held placed → part ≡ twenty_percent_of dnf
    → ◌≡◌ {A = RaceBasis}
    (record { entered = entered; came = came; dnf = dnf; twenty_percent = part })
    (race_basis nat_eq rules (race_of sheet.order sheet.held))
basis_at sheet held placed same is rules entered came dnf part is_entered is_came is_dnf is_part =
    let here : dnf ≡ dnf_of nat_eq rules (race_of sheet.order held) =
    is_dnf ∙ sym (dnf_is_of sheet.order held placed is rules) in
    (λ i. record {
      entered = (is_entered ∙ sym (length-range_with_len 0 (length held))) i;
      came = (is_came ∙ came_is_of sheet.order held placed is) i;
      dnf = here i;
      twenty_percent = (is_part ∙ ap twenty_percent_of here) i;
    })
    ∙ (λ i. race_basis nat_eq rules (race_of sheet.order (same i)))

-- the groups so far, with their places, and one more
pub groups_more : (order : List (List ℕ)) (held : List Held) (i : ℕ) → i < length order →
    map sheet_group (map (placed_group (race_of order held)) (take (i + 1) (enumerate_from 0 order)))
    ≡ map sheet_group (map (placed_group (race_of order held)) (take i (enumerate_from 0 order)))
    ++ sheet_group (placed_group (race_of order held) (i, get_or order i [])) ∷ []
groups_more order held i within =
    let by = placed_group (race_of order held) in
    let none : ℕ × List ℕ = (0, []) in
    let all = enumerate_from 0 order in
    let long : length all ≡ length order = length-enumerate_from 0 order in
    let below : i < length all = omega (arith, long, within) in
    let item : get_or all i none ≡ (i, get_or order i []) =
    get_or-enumerate_from 0 order i none within
    ∙ ap (λ (n : ℕ). (n, get_or order i [])) (omega arith) in
    ap (λ (gs : List (ℕ × List ℕ)). map sheet_group (map by gs)) (take_more all i none below)
    ∙ ap (map sheet_group) (map-append by (take i all) (get_or all i none ∷ []))
    ∙ map-append sheet_group (map by (take i all)) (by (get_or all i none) ∷ [])
    ∙ ap (λ (g : ℕ × List ℕ). map sheet_group (map by (take i all)) ++ sheet_group (by g) ∷ []) item

-- the boats of the groups are on the sheet
pub groups_within : (order : List (List ℕ)) (held : List Held)
    → All (All (λ boat. boat < length held)) order
    → All (λ group. All (λ boat. boat < length held) group.boats)
    (map sheet_group (placed_groups (race_of order held)))
groups_within order held within =
    let by = placed_group (race_of order held) in
    let all = enumerate_from 0 order in
    let long : length all ≡ length order = length-enumerate_from 0 order in
    All-map (λ (group : SheetGroup). All (λ boat. boat < length held) group.boats) sheet_group
    (map by all) (λ k d h. (let below : k < length all = omega (arith, length-map all by, h) in
    let none : ℕ × List ℕ = (0, []) in
    let item : get_or (map by all) k d ≡ by (k, get_or order k []) =
    get_or-map by all k none d below
    ∙ ap by (get_or-enumerate_from 0 order k none (omega (arith, below, long))
    ∙ ap (λ (n : ℕ). (n, get_or order k [])) (omega arith)) in
    subst (λ (group : PlacedGroup ℕ). All (λ boat. boat < length held) group.boats) (sym item)
    (within k [] (omega (arith, below, long)))))
