use Rattle.std.proofs.Common.{◌∙◌}
use Rattle.regatta_board.proofs.KeptFacts.{empty_is}
use Rattle.regatta_board.proofs.LawfulJournals.{lawful_orderly}
use Rattle.regatta_board.proofs.ledger.Ledger.has_no_finisher.Goals as goal

pub returns : goal.returns
returns c =
    let l = c.args.self.now in
    c.has_no_finisher.ensures.value
    ∙ empty_is l.rules l.entries (lawful_orderly l.rules l.entries c.kept.ensures.lawful)
    c.kept.result.now c.kept.ensures.value c.args.race c.has_no_finisher.ensures.range
