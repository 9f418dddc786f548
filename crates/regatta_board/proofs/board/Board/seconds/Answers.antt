use Rattle.std.proofs.Common.{ap, ◌∙◌}
use Rattle.regatta_scores.specs.Sheet.{Sheet, time_of}
use Rattle.regatta_board.specs.Step.{sheet_in}
use Rattle.regatta_board.specs.Table.{Kept}
use Rattle.regatta_board.proofs.LawfulJournals.{lawful_orderly}
use Rattle.regatta_board.proofs.RaceDetails.{time_at}
use Rattle.regatta_board.proofs.board.Board.seconds.Goals as goal

pub returns : goal.returns
returns c =
    let rules = c.args.self.now.rules in
    let journal = c.args.self.now.entries in
    let race = c.args.race in
    c.seconds.ensures
    ∙ ap (time_of c.sheet.result.now.seconds) c.number_at.ensures
    ∙ ap (λ (sheet : Sheet). time_of sheet.seconds c.args.number)
    (c.sheet.ensures.value ∙ ap (λ (kept : Kept). sheet_in kept race) c.kept.ensures.value)
    ∙ time_at rules journal (lawful_orderly rules journal c.kept.ensures.lawful) race
    c.sheet.ensures.range c.args.number c.requires
