-- A finishing order that a sheet may have, by the boats' numbers, stays one.
use Rattle.std.proofs.Common.{◌≡◌, ℕ, ◌<◌, true, false, List, [], ◌∷◌, ◌++◌, ap, ◌∙◌, refl, sym}
use Rattle.std.proofs.Common.{arith, length, map, nat_eq, None}
use Rattle.std.specs.List.{list_any}
use Rattle.std.proofs.lemmas.List.{length-map, map-append}
use Rattle.regatta_terms.specs.Effects.{AtEnd, TiedWith, AheadOf, ByTime, Act, Places, Strikes}
use Rattle.regatta_terms.specs.Effects.{Decides, Counts}
use Rattle.regatta_terms.specs.declared.limits.TheConstants.{MAX_BOATS}
use Rattle.regatta_terms.specs.Rules.{RulesParts}
use Rattle.regatta_terms.specs.declared.sail.Sail.{Sail}
use Rattle.regatta_scores.specs.Order.{stands_in}
use Rattle.regatta_scores.specs.Sheet.{nothing_held, time_of}
use Rattle.regatta_scores.specs.SheetFacts.{IsSheet}
use Rattle.regatta_scores.specs.Journal.{Journal, same_sail, entered, order, time}
use Rattle.regatta_scores.proofs.Sheets.{last_sheet, joined_sheet, ahead_sheet, without_sheet}
use Rattle.regatta_scores.proofs.Sheets.{more_sheet, copied_sheet, timed_sheet}
use Rattle.regatta_scores.proofs.LastingTimes.{order_with}
use Rattle.regatta_board.specs.Refusals.{limits, is_entered, is_placed}
use Rattle.regatta_board.specs.KeptJournal.{number, blank, IsOnSheet}
use Rattle.regatta_board.proofs.Accepted.{MayAct}
use Rattle.regatta_board.proofs.Numbers.{index_in, found_under}
use Rattle.regatta_board.proofs.Allowed.{placed_same, index_below}
use Rattle.regatta_board.proofs.Renumbered.{last_numbered, joined_numbered, ahead_numbered}
use Rattle.regatta_board.proofs.Renumbered.{without_numbered, timed_numbered, order_stays}

-- if nothing changes
pub on_same : (old new : List Sail) (o p : List (List Sail)) → new ≡ old → p ≡ o
    → IsOnSheet old o → IsOnSheet new p
on_same old new o p boats orders is =
    copied_sheet (map (map (index_in old)) o) (map (map (index_in new)) p) (blank old) (blank new)
    (λ i. map (map (index_in (boats i))) (orders i)) (ap blank boats) is

-- if one more boat is entered
pub on_more : (boats : List Sail) (s : Sail) (o : List (List Sail)) → IsOnSheet boats o
    → ((x : Sail) → stands_in same_sail x o ≡ true → list_any (same_sail x) boats ≡ true)
    → length boats < limits.boats → IsOnSheet (boats ++ s ∷ []) o
on_more boats s o is known room =
    copied_sheet (map (map (index_in boats)) o) (map (map (index_in (boats ++ s ∷ []))) o)
    (blank boats ++ nothing_held ∷ []) (blank (boats ++ s ∷ [])) (order_stays boats s o known)
    (map-append (λ (b : Sail). nothing_held) boats (s ∷ []))
    (more_sheet (map (map (index_in boats)) o) (blank boats) is
    (let within : length boats < MAX_BOATS = room in
    omega (arith, length-map boats (λ (b : Sail). nothing_held))))

module _ (rules : RulesParts) (journal : Journal) (race : ℕ)
    (is : IsOnSheet (entered journal) (order rules journal race))
    (all_entered : (x : Sail) → is_placed rules journal race x ≡ true
    → is_entered journal x ≡ true) where
  -- the time of a boat that is entered is at her number
  pub time_there : (x : Sail) → is_entered journal x ≡ true
      → time_of (map (time journal race) (entered journal)) (number journal x) ≡ time journal race x
  time_there x known =
      found_under (time journal race) None (entered journal) x
      (λ out. (let no_way : true ≡ false = sym known ∙ out in cc))

  below : (s : Sail) → is_entered journal s ≡ true
      → number journal s < length (blank (entered journal))
  below s known =
      omega (
        arith,
        index_below (entered journal) s known,
        length-map (entered journal) (λ (b : Sail). nothing_held),
      )

  out : (s : Sail) → is_entered journal s ≡ true → is_placed rules journal race s ≡ false
      → stands_in nat_eq (number journal s) (map (map (number journal)) (order rules journal race))
      ≡ false
  out s known free = placed_same rules journal race s known ∙ free

  abbrev numbers : List (List ℕ)
  numbers = map (map (number journal)) (order rules journal race)

  renumbered : (new : List (List Sail)) (named : List (List ℕ))
      → map (map (number journal)) new ≡ named → IsSheet named (blank (entered journal))
      → IsOnSheet (entered journal) new
  renumbered new named e sheet =
      copied_sheet named (map (map (number journal)) new) (blank (entered journal))
      (blank (entered journal)) e refl sheet

  -- after an act that isn't refused
  pub on_after : (act : Act) → MayAct rules journal race act
      → IsOnSheet (entered journal)
      (order_with (time journal race) (order rules journal race) act)
  on_after (Places s AtEnd) may =
      renumbered _ _ (last_numbered (entered journal) (order rules journal race) s)
      (last_sheet numbers (blank (entered journal)) (number journal s) is (below s may.0)
      (out s may.0 may.1))
  on_after (Places s (TiedWith other)) may =
      renumbered _ _ (joined_numbered (entered journal) (order rules journal race) s other may.2.1)
      (joined_sheet numbers (blank (entered journal)) (number journal s) (number journal other) is
      (below s may.0) (out s may.0 may.1))
  on_after (Places s (AheadOf other)) may =
      renumbered _ _ (ahead_numbered (entered journal) (order rules journal race) s other may.2.1)
      (ahead_sheet numbers (blank (entered journal)) (number journal s) (number journal other) is
      (below s may.0) (out s may.0 may.1))
  on_after (Places s (ByTime seconds)) may =
      let times = time_of (map (time journal race) (entered journal)) in
      renumbered _ _
      (timed_numbered (entered journal) (time journal race) times (order rules journal race) s
      seconds (λ x h. time_there x (all_entered x h)))
      (timed_sheet times seconds numbers (blank (entered journal)) (number journal s) is
      (below s may.0) (out s may.0 may.1))
  on_after (Strikes s) may =
      renumbered _ _ (without_numbered (entered journal) (order rules journal race) s may)
      (without_sheet numbers (blank (entered journal)) (number journal s) is)
  on_after (Decides s decision) may = is
  on_after (Counts counts) may = is
