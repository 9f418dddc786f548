use Rattle.std.proofs.Common.{◌≡◌, ap, map, nat_eq, ◌∙◌}
use Rattle.std.specs.List.{range_with_len}
use Rattle.regatta_scores.specs.Details.{scoring}
use Rattle.regatta_scores.specs.RacePoints.{race_of}
use Rattle.regatta_scores.specs.Sheet.{Sheet, boats}
use Rattle.regatta_board.specs.KeptJournal.{kept_of}
use Rattle.regatta_board.specs.Step.{sheet_in}
use Rattle.regatta_board.specs.Table.{Kept}
use Rattle.regatta_board.proofs.LawfulJournals.{lawful_orderly}
use Rattle.regatta_board.proofs.RaceDetails.{scorings_are}
use Rattle.regatta_board.proofs.board.Board.scorings.Goals as goal

pub returns : goal.returns
returns c =
    let rules = c.args.self.now.rules in
    let journal = c.args.self.now.entries in
    let race = c.args.race in
    let sheet : ◌≡◌ {A = Sheet} c.sheet.result.now (sheet_in (kept_of rules journal) race) =
    c.sheet.ensures.value ∙ ap (λ (kept : Kept). sheet_in kept race) c.kept.ensures.value in
    c.in_ok-all.ensures
    ∙ (λ i. map (scoring nat_eq (c.rules.ensures i) (race_of (sheet i).order (sheet i).held))
    (range_with_len 0 (boats (sheet i))))
    ∙ scorings_are rules journal (lawful_orderly rules journal c.kept.ensures.lawful) race
    c.sheet.ensures.range
