use Rattle.std.proofs.Common.{◌∙◌}
use Rattle.regatta_board.proofs.KeptFacts.{empty_is}
use Rattle.regatta_board.proofs.LawfulJournals.{lawful_orderly}
use Rattle.regatta_board.proofs.board.Board.has_no_order.Goals as goal

pub returns : goal.returns
returns c =
    let rules = c.args.self.now.rules in
    let journal = c.args.self.now.entries in
    c.has_no_finisher.ensures.value
    ∙ empty_is rules journal (lawful_orderly rules journal c.kept.ensures.lawful) _
    c.kept.ensures.value c.args.race c.has_no_finisher.ensures.range
