use Rattle.std.proofs.Common.{ap, get_or, ℕ, ◌∙◌}
use Rattle.regatta_scores.specs.Sheet.{nothing_held}
use Rattle.regatta_board.specs.Step.{sheet_in}
use Rattle.regatta_board.specs.Table.{Kept}
use Rattle.regatta_board.proofs.LawfulJournals.{lawful_orderly}
use Rattle.regatta_board.proofs.RaceDetails.{held_at}
use Rattle.regatta_board.proofs.board.Board.held.Goals as goal

pub returns : goal.returns
returns c =
    let rules = c.args.self.now.rules in
    let journal = c.args.self.now.entries in
    let race = c.args.race in
    c.held.ensures.value
    ∙ ap (λ (n : ℕ). get_or (sheet_in c.kept.result.now race).held n nothing_held) c.number_at.ensures
    ∙ ap (λ (kept : Kept). get_or (sheet_in kept race).held c.args.number nothing_held)
    c.kept.ensures.value
    ∙ held_at rules journal (lawful_orderly rules journal c.kept.ensures.lawful) race
    c.held.ensures.range c.args.number c.requires
