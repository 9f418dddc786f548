use Rattle.std.proofs.Common.{◌≡◌, ap, nat_eq, ◌∙◌}
use Rattle.regatta_scores.specs.Details.{race_basis}
use Rattle.regatta_scores.specs.RacePoints.{race_of}
use Rattle.regatta_scores.specs.Sheet.{Sheet}
use Rattle.regatta_board.specs.KeptJournal.{kept_of}
use Rattle.regatta_board.specs.Step.{sheet_in}
use Rattle.regatta_board.specs.Table.{Kept}
use Rattle.regatta_board.proofs.LawfulJournals.{lawful_orderly}
use Rattle.regatta_board.proofs.RaceDetails.{basis_is}
use Rattle.regatta_board.proofs.board.Board.race_basis.Goals as goal

pub returns : goal.returns
returns c =
    let rules = c.args.self.now.rules in
    let journal = c.args.self.now.entries in
    let race = c.args.race in
    let sheet : ◌≡◌ {A = Sheet} c.sheet.result.now (sheet_in (kept_of rules journal) race) =
    c.sheet.ensures.value ∙ ap (λ (kept : Kept). sheet_in kept race) c.kept.ensures.value in
    c.in_ok-basis.ensures
    ∙ (λ i. race_basis nat_eq (c.rules.ensures i) (race_of (sheet i).order (sheet i).held))
    ∙ basis_is rules journal (lawful_orderly rules journal c.kept.ensures.lawful) race
    c.sheet.ensures.range
