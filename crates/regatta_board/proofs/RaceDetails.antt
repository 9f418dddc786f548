-- What is told of a race by its sheet is what the journal says of it.
use Rattle.std.proofs.Common.{◌≡◌, ℕ, ◌+◌, ◌<◌, true, false, List, [], ◌∷◌, refl, ap, ◌∙◌, sym}
use Rattle.std.proofs.Common.{length, map, get_or, nat_eq, None}
use Rattle.std.specs.List.{range_with_len, list_any, enumerate_from}
use Rattle.std.proofs.lemmas.Bool.{or_left, or_right}
use Rattle.std.proofs.lemmas.List.{get_or-map, map-id}
use Rattle.regatta_terms.specs.Entries.{IsRace}
use Rattle.regatta_terms.specs.Rules.{RulesParts}
use Rattle.regatta_terms.specs.declared.sail.Sail.{Sail}
use Rattle.regatta_scores.specs.Details.{PlacedGroup, placed_group, placed_groups, race_basis, scoring}
use Rattle.regatta_scores.specs.Details.{sheet_group}
use Rattle.regatta_scores.specs.Journal.{Journal, same_sail, entered, held, order, time}
use Rattle.regatta_scores.specs.Order.{in_group, stands_in}
use Rattle.regatta_scores.specs.RacePoints.{journal_race, race_of}
use Rattle.regatta_scores.specs.Sheet.{Sheet, boats, nothing_held, time_of}
use Rattle.regatta_scores.proofs.Renamed.{basis_same, groups_same, renamed_group, scoring_same}
use Rattle.regatta_board.specs.Details.{boat_at, named_group, sail_group}
use Rattle.regatta_board.specs.KeptJournal.{IsOrderly, kept_of, number, sheet_of}
use Rattle.regatta_board.specs.Refusals.{is_entered}
use Rattle.regatta_board.specs.Step.{sheet_in}
use Rattle.regatta_board.proofs.KeptFacts.{sheet_is}
use Rattle.regatta_board.proofs.Maps.{map_map}
use Rattle.regatta_board.proofs.Numbers.{found_under, index_in, is_same, map_known}
use Rattle.regatta_board.proofs.TableOf.{boats_numbered, known_all, renamed}

-- ---- numbers of boats

-- the boat at a boat's number is she
pub boat_is : (sails : List Sail) (boat : Sail) → list_any (same_sail boat) sails ≡ true
    → boat_at sails (index_in sails boat) ≡ boat
boat_is sails boat here =
    ap (λ (xs : List Sail). get_or xs (index_in sails boat) []) (sym (map-id sails))
    ∙ found_under (λ x. x) [] sails boat
    (λ out. let wrong : true ≡ false = sym here ∙ out in absurd (cc))

-- ---- one race

module _ (rules : RulesParts) (journal : Journal) (orderly : IsOrderly rules journal) (race : ℕ)
    (is : IsRace race) where
  -- the sheet of the race
  abbrev sheet : Sheet
  sheet = sheet_in (kept_of rules journal) race

  is_sheet : sheet ≡ sheet_of rules journal race
  is_sheet = sheet_is rules journal race is

  -- what it is scored by
  pub basis_is : race_basis nat_eq rules (race_of sheet.order sheet.held)
      ≡ race_basis same_sail rules (journal_race rules journal race)
  basis_is =
      (λ i. race_basis nat_eq rules (race_of (is_sheet i).order (is_sheet i).held))
      ∙ basis_same same_sail nat_eq (λ b. is_entered journal b ≡ true) (number journal)
      (journal_race rules journal race)
      (race_of (sheet_of rules journal race).order (sheet_of rules journal race).held)
      (renamed rules journal orderly race) rules

  -- each boat's score in its parts
  pub scorings_are :
      map (scoring nat_eq rules (race_of sheet.order sheet.held)) (range_with_len 0 (boats sheet))
      ≡ map (scoring same_sail rules (journal_race rules journal race)) (entered journal)
  scorings_are =
      let whole = race_of (sheet_of rules journal race).order (sheet_of rules journal race).held in
      (λ i. map (scoring nat_eq rules (race_of (is_sheet i).order (is_sheet i).held))
      (range_with_len 0 (boats (is_sheet i))))
      ∙ ap (map (scoring nat_eq rules whole)) (boats_numbered rules journal orderly race)
      ∙ map_map (scoring nat_eq rules whole) (number journal) (entered journal)
      ∙ map_known (λ boat. is_entered journal boat ≡ true)
      (λ boat. scoring nat_eq rules whole (number journal boat))
      (scoring same_sail rules (journal_race rules journal race))
      (λ boat h. scoring_same same_sail nat_eq (λ b. is_entered journal b ≡ true) (number journal)
      (journal_race rules journal race) whole (renamed rules journal orderly race) rules boat h)
      (entered journal) (known_all rules journal orderly)

  -- the boats of a group, by their numbers
  named_boats : (group : List Sail)
      → ((x : Sail) → in_group same_sail x group ≡ true → is_entered journal x ≡ true)
      → map (boat_at (entered journal)) (map (number journal) group) ≡ group
  named_boats [] known = refl
  named_boats (x ∷ xs) known =
      λ i. boat_is (entered journal) x (known x (rw (is_same x) refl)) i
      ∷ named_boats xs (λ y h. known y (or_right (same_sail x y) _ h)) i

  named_from : (n : ℕ) (groups : List (List Sail))
      → ((x : Sail) → stands_in same_sail x groups ≡ true → is_entered journal x ≡ true)
      → map (named_group (entered journal)) (map sheet_group (map (renamed_group (number journal))
      (map (placed_group (journal_race rules journal race)) (enumerate_from n groups))))
      ≡ map sail_group
      (map (placed_group (journal_race rules journal race)) (enumerate_from n groups))
  named_from n [] known = refl
  named_from n (group ∷ groups) known =
      let first = placed_group (journal_race rules journal race) (n, group) in
      λ i. record {
        place = first.place;
        sharing = first.sharing;
        boats = named_boats group
            (λ x h. known x (or_left (in_group same_sail x group) _ h)) i;
      }
      ∷ named_from (n + 1) groups
      (λ x h. known x (or_right (in_group same_sail x group) _ h)) i

  -- the groups with their places
  pub groups_are : map (named_group (entered journal))
      (map sheet_group (placed_groups (race_of sheet.order sheet.held)))
      ≡ map sail_group (placed_groups (journal_race rules journal race))
  groups_are =
      let whole = race_of (sheet_of rules journal race).order (sheet_of rules journal race).held in
      (λ i. map (named_group (entered journal))
      (map sheet_group (placed_groups (race_of (is_sheet i).order (is_sheet i).held))))
      ∙ ap (λ (gs : List (PlacedGroup ℕ)). map (named_group (entered journal)) (map sheet_group gs))
      (groups_same same_sail nat_eq (λ b. is_entered journal b ≡ true) (number journal)
      (journal_race rules journal race) whole (renamed rules journal orderly race))
      ∙ named_from 0 (order rules journal race) (λ x h. orderly.known race x h)

  -- what the boat with a number holds, and her time
  pub held_at : (n : ℕ) → n < length (entered journal)
      → get_or sheet.held n nothing_held ≡ held journal race (boat_at (entered journal) n)
  held_at n h =
      ap (λ (s : Sheet). get_or s.held n nothing_held) is_sheet
      ∙ get_or-map (held journal race) (entered journal) n [] nothing_held h

  pub time_at : (n : ℕ) → n < length (entered journal)
      → time_of sheet.seconds n ≡ time journal race (boat_at (entered journal) n)
  time_at n h =
      ap (λ (s : Sheet). time_of s.seconds n) is_sheet
      ∙ get_or-map (time journal race) (entered journal) n [] None h
