-- The scores of a board, and those after one more accepted entry.
use Rattle.std.proofs.Common.{◌≡◌, ℕ, ◌<◌, ◌≤◌, true, List, [], ◌∷◌, ◌++◌, refl}
use Rattle.std.proofs.Common.{ap, ◌∙◌, sym, subst, arith, length, Option, Some, None}
use Rattle.std.specs.List.{position}
use Rattle.std.specs.Option.{option_map}
use Rattle.regatta_terms.specs.Effects.{Act, Places, Strikes, Decides, Counts, Effect, Enters}
use Rattle.regatta_terms.specs.Effects.{InRace, effect}
use Rattle.regatta_terms.specs.Entries.{EntryParts}
use Rattle.regatta_terms.specs.Rules.{RulesParts}
use Rattle.regatta_terms.specs.declared.sail.Sail.{Sail}
use Rattle.regatta_scores.specs.Journal.{Journal, same_sail, entered}
use Rattle.regatta_scores.specs.Standing.{standing}
use Rattle.regatta_board.specs.Refusals.{limits, refusal, is_lawful}
use Rattle.regatta_board.specs.Answers.{boat_named, rank_of, IsNumberOf}
use Rattle.regatta_board.specs.declared.scoring.update.Update.{Update}
use Rattle.regatta_board.specs.Scoring.{Scoring, IsScoring, touched_at}
use Rattle.regatta_board.specs.Table.{table}
use Rattle.regatta_board.specs.KeptJournal.{number, kept_of}
use Rattle.regatta_board.specs.BoardFacts.{BoardValue, StagedValue, IsStaged}
use Rattle.regatta_scores.proofs.Apart.{entered_more, same_entered}
use Rattle.regatta_board.proofs.Accepted.{MayAct, MayStep, may_step}
use Rattle.regatta_board.proofs.Found.{at_position, found, found_more}
use Rattle.regatta_board.proofs.Lawful.{accepted}
use Rattle.regatta_board.proofs.LawfulJournals.{lawful_orderly, lawful_kept}
use Rattle.regatta_board.proofs.Numbers.{is_same}
use Rattle.regatta_board.proofs.RowFound.{rank_found}
use Rattle.regatta_board.proofs.ScoringFacts.{lines_by_long}
use Rattle.regatta_board.proofs.TableOf.{table_is, lines_kept}

-- an answer has the row of a boat, which is found by her number
pub board_rank : (rules : RulesParts) (journal : Journal) → is_lawful limits rules journal ≡ true
    → (scoring : Scoring) → IsScoring rules (kept_of rules journal) scoring → (boat : Sail)
    → option_map (touched_at scoring) (position (same_sail boat) (entered journal))
    ≡ rank_of rules journal boat
board_rank rules journal lawful scoring is boat =
    let orderly = lawful_orderly rules journal lawful in
    rank_found rules journal boat orderly.apart scoring
    (is.lines ∙ lines_kept rules journal orderly)

-- a boat that is entered has a line
pub line_within : (rules : RulesParts) (journal : Journal) (scoring : Scoring)
    → IsScoring rules (kept_of rules journal) scoring → (boat : Sail) (at : ℕ)
    → position (same_sail boat) (entered journal) ≡ Some at → at < length scoring.lines
line_within rules journal scoring is boat at e =
    let lines = ap length is.lines ∙ lines_by_long rules (kept_of rules journal) in
    let within = (at_position (same_sail boat) (entered journal) at e).2 in
    omega (arith, lines, within)

-- there are no more lines than boats may be entered
pub lines_few : (rules : RulesParts) (journal : Journal) → is_lawful limits rules journal ≡ true
    → (scoring : Scoring) → IsScoring rules (kept_of rules journal) scoring
    → length scoring.lines ≤ limits.boats
lines_few rules journal lawful scoring is =
    let lines = ap length is.lines ∙ lines_by_long rules (kept_of rules journal) in
    let kept = lawful_kept rules journal lawful in
    omega (arith, lines, kept.few)

-- a command that may be committed was prepared on the board as it is
module _ {entry : EntryParts} {place : ℕ} {update : Update} {boat : Option ℕ} where
  pub staged_on : {staged value : StagedValue} {held board : BoardValue} → staged ≡ value
      → value.board ≡ board → held ≡ board → IsStaged staged.board entry place update boat
      → IsStaged held entry place update boat
  staged_on staged_is of held_is =
      subst (λ (v : BoardValue). IsStaged v entry place update boat)
      (ap (λ (v : StagedValue). v.board) staged_is ∙ of ∙ sym held_is)

-- the table computed from what is kept of a lawful journal is its standing
pub lawful_table : (rules : RulesParts) (journal : Journal) → is_lawful limits rules journal ≡ true
    → table rules (kept_of rules journal) ≡ standing rules journal
lawful_table rules journal lawful =
    table_is rules journal (lawful_orderly rules journal lawful)

-- the number of the boat that an accepted command names is hers afterwards: a boat that it enters
-- gets the number of boats
module _ (rules : RulesParts) (entries : Journal) (e : EntryParts)
    (none : refusal limits rules entries e ≡ None) where
  named_by : (f : Effect) → effect e.command ≡ f → MayStep rules entries f
      → IsNumberOf (entered (entries ++ e ∷ [])) (boat_named f)
      (option_map (number entries) (boat_named f))
  named_by (Enters s) is may =
      rw (entered_more entries e) (rw is (ap Some (found_more (same_sail s) (entered entries) s
      (is_same s))))
  named_by (InRace race act) is may = rw (same_entered entries e race act is) (by act may)
    where
      by : (a : Act) → MayAct rules entries race a
          → IsNumberOf (entered entries) (boat_named (InRace race a))
          (option_map (number entries) (boat_named (InRace race a)))
      by (Places s placing) may = ap Some (found (same_sail s) (entered entries) may.0)
      by (Strikes s) may = ap Some (found (same_sail s) (entered entries) may)
      by (Decides s d) may = ap Some (found (same_sail s) (entered entries) may)
      by (Counts counts) may = refl

  pub named_after : IsNumberOf (entered (entries ++ e ∷ [])) (boat_named (effect e.command))
      (option_map (number entries) (boat_named (effect e.command)))
  named_after =
      let free = accepted rules entries e none in
      named_by (effect e.command) refl
      (may_step rules entries e.role (effect e.command) free.0 free.1)

-- a boat with a number is a boat with a position
pub whose : (sails : List Sail) (named : Option Sail) (at : ℕ) → IsNumberOf sails named (Some at)
    → (sail : Sail) × (named ≡ Some sail) × (position (same_sail sail) sails ≡ Some at)
whose sails (Some sail) at e = (sail, refl, cc)
whose sails None at e = absurd (cc)

pub nobody : (sails : List Sail) (named : Option Sail) → IsNumberOf sails named None → named ≡ None
nobody sails (Some sail) e = absurd (cc)
nobody sails None e = refl
