use Rattle.std.proofs.Common.{◌∙◌}
use Rattle.regatta_board.proofs.KeptFacts.{scored_is}
use Rattle.regatta_board.proofs.LawfulJournals.{lawful_orderly}
use Rattle.regatta_board.proofs.ledger.Ledger.is_scored.Goals as goal

pub returns : goal.returns
returns c =
    let l = c.args.self.now in
    c.is_scored.ensures.value
    ∙ scored_is l.rules l.entries (lawful_orderly l.rules l.entries c.kept.ensures.lawful)
    c.kept.result.now c.kept.ensures.value c.args.race c.is_scored.ensures.range
