use Rattle.std.proofs.Common.{◌≡◌, ap, map, ◌∙◌}
use Rattle.regatta_scores.specs.Details.{placed_groups, sheet_group}
use Rattle.regatta_scores.specs.Journal.{entered}
use Rattle.regatta_scores.specs.RacePoints.{race_of}
use Rattle.regatta_scores.specs.Sheet.{Sheet}
use Rattle.regatta_board.specs.Details.{named_group}
use Rattle.regatta_board.specs.KeptJournal.{kept_of}
use Rattle.regatta_board.specs.Step.{sheet_in}
use Rattle.regatta_board.specs.Table.{Kept}
use Rattle.regatta_board.proofs.LawfulJournals.{lawful_orderly}
use Rattle.regatta_board.proofs.RaceDetails.{groups_are}
use Rattle.regatta_board.proofs.board.Board.groups.Goals as goal

pub returns : goal.returns
returns c =
    let rules = c.args.self.now.rules in
    let journal = c.args.self.now.entries in
    let race = c.args.race in
    let sheet : ◌≡◌ {A = Sheet} c.sheet.result.now (sheet_in (kept_of rules journal) race) =
    c.sheet.ensures.value ∙ ap (λ (kept : Kept). sheet_in kept race) c.kept-kept.ensures.value in
    let sails : c.entry_list.result.now ≡ entered journal =
    c.entry_list.ensures ∙ ap (λ (kept : Kept). kept.sails) c.kept-kept.ensures.value in
    let numbered = c.as_slice.ensures ∙ c.in_ok-numbered.ensures.value
    ∙ (λ i. map sheet_group (placed_groups (race_of (sheet i).order (sheet i).held))) in
    c.new.ensures ∙ c.in_ok-groups.ensures
    ∙ (λ i. map (named_group (sails i)) (numbered i))
    ∙ groups_are rules journal (lawful_orderly rules journal c.kept-kept.ensures.lawful) race
    c.sheet.ensures.range
