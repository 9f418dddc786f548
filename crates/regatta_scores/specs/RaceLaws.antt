-- Laws of single races.
use Rattle.std.specs.Prelude.{◌≡◌, ◌≢◌, ℕ, ◌+◌, ◌*◌, ◌≤◌, Bool, true, false, [], ◌∷◌}
use Rattle.std.specs.Prelude.{◌++◌, count_by, sum_by, find, unwrap_or, if◌then◌else◌}
use Rattle.std.specs.List.{range_with_len, before_first}
use Rattle.regatta_terms.specs.Effects.{Act, InRace, effect}
use Rattle.regatta_terms.specs.Entries.{EntryParts}
use Rattle.regatta_terms.specs.Rules.{RulesParts}
use Rattle.regatta_terms.specs.declared.sail.Sail.{Sail}
use Rattle.regatta_terms.specs.declared.command.Code.{Code}
use Rattle.regatta_terms.specs.declared.command.Command.TheVariants.{Enter, Mark}
use Rattle.regatta_scores.specs.Order.{HasNoEmptyGroup, in_group, stands_in, times_placed}
use Rattle.regatta_scores.specs.Journal.{Journal, same_sail, order, held}
use Rattle.regatta_scores.specs.RacePoints.{Race, Status, Finished, Coded, journal_race, status}
use Rattle.regatta_scores.specs.RacePoints.{finishers, place_points, dnf, plain}

-- two journals say the same about a race, under the rules of the series
pub record SaysTheSame (rules : RulesParts) (old new : Journal) (race : ℕ) : Type 0 where
  pub same_order : order rules new race ≡ order rules old race
  pub same_held : (boat : Sail) → held new race boat ≡ held old race boat
  pub same_status : (boat : Sail) → status same_sail (journal_race rules new race) boat
      ≡ status same_sail (journal_race rules old race) boat
  pub same_dnf : dnf same_sail rules (journal_race rules new race)
      ≡ dnf same_sail rules (journal_race rules old race)
  pub same_plain : (boat : Sail) → plain same_sail rules (journal_race rules new race) boat
      ≡ plain same_sail rules (journal_race rules old race) boat

-- Under any rules, a command of one race changes no other race.
abbrev pub RacesAreApart : Type 0
RacesAreApart = (rules : RulesParts) (journal : Journal) (entry : EntryParts) (race other : ℕ)
    (act : Act) → effect entry.command ≡ InRace race act → other ≢ race →
    SaysTheSame rules journal (journal ++ entry ∷ []) other

-- Under any rules, Enter changes no finishing order and nothing that a boat holds.
abbrev pub EnterKeepsRaces : Type 0
EnterKeepsRaces = (rules : RulesParts) (journal : Journal) (entry : EntryParts) (sail : Sail) →
    entry.command ≡ Enter sail → (race : ℕ) →
    (order rules (journal ++ entry ∷ []) race ≡ order rules journal race)
    × ((boat : Sail) → held (journal ++ entry ∷ []) race boat ≡ held journal race boat)

-- Under any rules and for any journal, no finishing order has an empty group (A3, A7).
abbrev pub OrdersHaveNoEmptyGroup : Type 0
OrdersHaveNoEmptyGroup = (rules : RulesParts) (journal : Journal) (race : ℕ) →
    HasNoEmptyGroup (order rules journal race)

-- no boat is in the race's order twice (A3)
abbrev pub NobodyTwice : Race Sail → Type 0
NobodyTwice race = (boat : Sail) → times_placed same_sail race.order boat ≤ 1

module _ {B : Type 0} (same : B → B → Bool) where
  -- her finishing place: one more than the number of boats that finished in the groups ahead of
  -- hers (A4, A6.1)
  abbrev pub finishing_place : Race B → B → ℕ
  finishing_place race boat =
      1 + sum_by (finishers race) (before_first (in_group same boat) race.order)

  -- the number of boats that finished in her group, which share her place (A7)
  abbrev pub sharing : Race B → B → ℕ
  sharing race boat = finishers race (unwrap_or (find (in_group same boat) race.order) [])

-- A boat leaves the order (A6.1): she is scored by her code, and every other boat's status stays.
-- Each boat in a later group moves up one place, each in her group shares with one fewer, and every
-- other place and number of sharers stays.
abbrev pub LeavesTheOrder : Race Sail → Race Sail → Sail → Code → Type 0
LeavesTheOrder old new coded code =
    (boat : Sail) →
    let ahead = before_first (in_group same_sail boat) old.order in
    let hers = unwrap_or (find (in_group same_sail boat) old.order) [] in
    let is_behind = stands_in same_sail coded ahead in
    let is_tied = in_group same_sail coded hers in
    (status same_sail new boat
    ≡ (if same_sail boat coded then Coded code else status same_sail old boat))
    × (finishing_place same_sail old boat
    ≡ finishing_place same_sail new boat + (if is_behind then 1 else 0))
    × (sharing same_sail old boat ≡ sharing same_sail new boat + (if is_tied then 1 else 0))

-- When a boat that finished is given a code, she leaves the order (A6.1).
abbrev pub CodedBoatsLeaveTheOrder : Type 0
CodedBoatsLeaveTheOrder =
    (rules : RulesParts) (journal : Journal) (entry : EntryParts) (race : ℕ) (coded : Sail)
    (code : Code) → entry.command ≡ Mark race coded code →
    NobodyTwice (journal_race rules journal race) →
    status same_sail (journal_race rules journal race) coded ≡ Finished →
    LeavesTheOrder (journal_race rules journal race)
    (journal_race rules (journal ++ entry ∷ []) race) coded code

-- The points of consecutive places, in tenths: 1 point for first, 2 for second, and so on (A4).
abbrev pub points_of_places : ℕ → ℕ → ℕ
points_of_places first number = sum_by (λ place. 10 * place) (range_with_len first number)

-- Boats tied for a place share equally the points for that place and for the places immediately
-- below (A7).
abbrev pub TiesShareEqually : Type 0
TiesShareEqually = (race : Race Sail) (boat : Sail) →
    sharing same_sail race boat * place_points same_sail race boat
    ≡ points_of_places (finishing_place same_sail race boat) (sharing same_sail race boat)

-- whether a boat of this status finished
abbrev pub is_finished : Status → Bool
is_finished Finished = true
is_finished _ = false

-- the points for her place if she finished, else 0 (A4, A7)
abbrev pub finish_points : Race Sail → Sail → ℕ
finish_points race boat =
    if is_finished (status same_sail race boat) then place_points same_sail race boat else 0

-- if n boats finished, their points for places, ties shared, add up to those of places 1 to n (A4,
-- A7)
abbrev pub IsSharedOut : Race Sail → Type 0
IsSharedOut race =
    let number = sum_by (count_by (λ boat. is_finished (status same_sail race boat))) race.order in
    sum_by (sum_by (finish_points race)) race.order ≡ points_of_places 1 number

-- The places of a race in which no boat is placed twice are shared out (A4, A7).
abbrev pub PlacesAreSharedOut : Type 0
PlacesAreSharedOut = (race : Race Sail) → NobodyTwice race → IsSharedOut race
