-- Laws of finishing places (RRS A3, A4, A6.1, A7).
use Rattle.std.specs.Prelude.{◌≡◌, ◌+◌, ◌*◌, ◌<◌, ◌≤◌, true, List, ◌∷◌, ◌++◌, length, map, filter}
use Rattle.std.specs.Prelude.{flat_map, count_by, All, Contains, None}
use Rattle.std.specs.List.{range_with_len, before_first}
use Rattle.regatta_terms.specs.Rules.{RulesParts}
use Rattle.regatta_terms.specs.declared.sail.Sail.{Sail}
use Rattle.regatta_scores.specs.CorrectedTimes.{CorrectedTime, order_of_times}
use Rattle.regatta_scores.specs.Journal.{same_sail}
use Rattle.regatta_scores.specs.Order.{in_group, stands_in}
use Rattle.regatta_scores.specs.RaceLaws.{NobodyTwice, is_finished}
use Rattle.regatta_scores.specs.RacePoints.{Race, Finished, status, finishers, place_points, dnf}
use Rattle.regatta_scores.specs.RacePoints.{plain}

-- no two boats that finished are tied
abbrev pub HasNoTie : Race Sail → Type 0
HasNoTie race = All (λ group. finishers race group ≤ 1) race.order

-- the boats that finished, in the finishing order
abbrev pub who_finished : Race Sail → List Sail
who_finished race =
    filter (λ boat. is_finished (status same_sail race boat)) (flat_map (λ group. group) race.order)

-- Without ties the boats that finished score 1 point for first, 2 for second, and so on (A4).
abbrev pub PlacesAreCounted : Type 0
PlacesAreCounted = (race : Race Sail) → NobodyTwice race → HasNoTie race →
    map (place_points same_sail race) (who_finished race)
    ≡ map (λ place. 10 * place) (range_with_len 1 (length (who_finished race)))

-- Boats of one group score alike for their place (A7).
abbrev pub TiedBoatsScoreAlike : Type 0
TiedBoatsScoreAlike = (race : Race Sail) (ahead behind : List (List Sail)) (group : List Sail)
    (a b : Sail) → NobodyTwice race → race.order ≡ ahead ++ group ∷ behind →
    in_group same_sail a group ≡ true → in_group same_sail b group ≡ true →
    place_points same_sail race a ≡ place_points same_sail race b

-- A boat that finished in a group ahead of another's scores at least a point less for her place (A4,
-- A7).
abbrev pub AheadIsBetter : Type 0
AheadIsBetter = (race : Race Sail) (first between last : List (List Sail)) (group other : List Sail)
    (a b : Sail) → NobodyTwice race → race.order ≡ first ++ group ∷ (between ++ other ∷ last) →
    in_group same_sail a group ≡ true → in_group same_sail b other ≡ true →
    (race.held a).code ≡ None →
    place_points same_sail race a + 10 ≤ place_points same_sail race b

-- If two races have the same DNF score, and a boat that finished in both holds the same in both, her
-- score before redress is no worse in that of the better place (A4, 30.2, 44.3(c)).
abbrev pub BetterPlacesNeverCost : Type 0
BetterPlacesNeverCost = (rules : RulesParts) (race other : Race Sail) (boat : Sail) →
    race.held boat ≡ other.held boat → dnf same_sail rules race ≡ dnf same_sail rules other →
    status same_sail race boat ≡ Finished → status same_sail other boat ≡ Finished →
    place_points same_sail race boat ≤ place_points same_sail other boat →
    plain same_sail rules race boat ≤ plain same_sail rules other boat

-- each boat has at most one time
abbrev pub HaveOneTime : List (CorrectedTime Sail) → Type 0
HaveOneTime times = (boat : Sail) → count_by (λ time. same_sail time.boat boat) times ≤ 1

-- By corrected times, a boat with a lower time than another stands in a group ahead of the other's
-- (A3).
abbrev pub LowerTimesAreAhead : Type 0
LowerTimesAreAhead = (times : List (CorrectedTime Sail)) (a b : CorrectedTime Sail) →
    HaveOneTime times → Contains times a → Contains times b → a.seconds < b.seconds →
    stands_in same_sail a.boat
    (before_first (in_group same_sail b.boat) (order_of_times times)) ≡ true
