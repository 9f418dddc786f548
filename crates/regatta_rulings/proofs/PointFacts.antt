-- The points of the last place, by the groups that the board gives.
use Rattle.std.proofs.Common.{◌≡◌, ℕ, ◌+◌, ◌<◌, ◌≤◌, List, [], ◌∷◌, ◌++◌, map, Option, Some, None}
use Rattle.std.proofs.Common.{refl, ap, sym, ◌∙◌, length, arith, take, get_or, append-nil}
use Rattle.std.specs.List.{cons_option, filter_map, last_or}
use Rattle.std.proofs.lemmas.List.{get_or-map, take_more}
use Rattle.std.proofs.lemmas.List.Elements.{filter_map-append}
use Rattle.std.proofs.lemmas.List.Sums.{count_by-le-length}
use Rattle.regatta_terms.specs.Rules.{RulesParts}
use Rattle.regatta_terms.specs.declared.limits.TheConstants.{MAX_BOATS}
use Rattle.regatta_terms.specs.declared.rules.Absent.{Absent}
use Rattle.regatta_terms.specs.declared.rules.Absent.TheVariants.{A52, A53}
use Rattle.regatta_terms.specs.declared.sail.Sail.{Sail}
use Rattle.regatta_scores.specs.declared.details.Scoring.{Scoring}
use Rattle.regatta_scores.specs.Details.{PlacedGroup, placed_groups, scoring}
use Rattle.regatta_scores.specs.Journal.{same_sail}
use Rattle.regatta_scores.specs.RacePoints.{Race, came, dnf, dnf_by, status}
use Rattle.regatta_board.specs.Details.{boat_at, sail_group}
use Rattle.regatta_board.specs.declared.details.SailGroup.{SailGroup}
use Rattle.regatta_rulings.specs.RulingPoints.{last_points, newer, plain_with_penalty, shared_points}

last_push : {X : Type 0} (o : Option X) (xs : List X) (x : X) → last_or o (xs ++ x ∷ []) ≡ Some x
last_push o [] x = refl
last_push o (y ∷ ys) x = last_push (Some y) ys x

last_more : {X Y : Type 0} (f : X → Option Y) (xs : List X) (x : X) →
    last_or None (filter_map f (xs ++ x ∷ [])) ≡ newer (f x) (last_or None (filter_map f xs))
last_more {Y = Y} f xs x = ap (last_or None) (filter_map-append f xs (x ∷ [])) ∙ by (f x)
  where
    by : (o : Option Y) → last_or None (filter_map f xs ++ cons_option o [])
        ≡ newer o (last_or None (filter_map f xs))
    by None = ap (last_or None) (append-nil (filter_map f xs))
    by (Some y) = last_push None (filter_map f xs) y

-- the last of what f gives of the items so far, with one more item
pub last_step : {X Y : Type 0} (f : X → Option Y) (xs : List X) (i : ℕ) (d : X) (old : Option Y)
    → i < length xs → old ≡ last_or None (filter_map f (take i xs))
    → newer (f (get_or xs i d)) old ≡ last_or None (filter_map f (take (i + 1) xs))
last_step f xs i d old below so_far =
    ap (newer (f (get_or xs i d))) so_far
    ∙ sym (last_more f (take i xs) (get_or xs i d))
    ∙ sym (ap (λ ys. last_or None (filter_map f ys)) (take_more xs i d below))

points_same : (groups : List (PlacedGroup Sail))
    → filter_map (λ group. shared_points group.place group.sharing) (map sail_group groups)
    ≡ filter_map (λ group. shared_points group.place group.sharing) groups
points_same [] = refl
points_same (group ∷ groups) =
    ap (cons_option (shared_points group.place group.sharing)) (points_same groups)

pub last_is : (race : Race Sail)
    → last_or None (filter_map (λ group. shared_points group.place group.sharing)
    (map sail_group (placed_groups race))) ≡ last_points race
last_is race = ap (last_or None) (points_same (placed_groups race))

dnf_by_small : (absent : Absent) (entered came : ℕ) → came ≤ entered
    → dnf_by absent entered came ≤ entered + 1
dnf_by_small A52 entered came fewer = omega arith
dnf_by_small A53 entered came fewer = omega arith

pub dnf_small : (rules : RulesParts) (race : Race Sail) → length race.entered ≤ MAX_BOATS
    → dnf same_sail rules race ≤ MAX_BOATS + 1
dnf_small rules race few =
    let fewer = count_by-le-length (λ boat. came (status same_sail race boat)) race.entered in
    let small = dnf_by_small rules.absent (length race.entered) _ fewer in
    omega (arith, small, few)

-- the score of the boat with a number
scoring_is : (rules : RulesParts) (race : Race Sail) (sails : List Sail) (n : ℕ) (sail : Sail)
    (all : List Scoring) (found : Scoring)
    → all ≡ map (scoring same_sail rules race) sails → n < length sails → boat_at sails n ≡ sail
    → found ≡ get_or all n found → found ≡ scoring same_sail rules race sail
scoring_is rules race sails n sail all found made within hers here =
    here
    ∙ ap (λ (scorings : List Scoring). get_or scorings n found) made
    ∙ get_or-map (scoring same_sail rules race) sails n [] found within
    ∙ ap (scoring same_sail rules race) hers

pub plain_is : (rules : RulesParts) (race : Race Sail) (sails : List Sail) (n : ℕ) (sail : Sail)
    (all : List Scoring) (found : Scoring)
    → all ≡ map (scoring same_sail rules race) sails → n < length sails → boat_at sails n ≡ sail
    → found ≡ get_or all n found
    → (found.plain, found.penalty) ≡ plain_with_penalty same_sail rules race sail
plain_is rules race sails n sail all found made within hers here =
    ap (λ (s : Scoring). (s.plain, s.penalty))
    (scoring_is rules race sails n sail all found made within hers here)
