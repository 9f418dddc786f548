use Rattle.std.proofs.Common.{◌∙◌, ap, get_or}
use Rattle.regatta_scores.specs.Sheet.{nothing_held}
use Rattle.regatta_board.specs.Step.{sheet_in}
use Rattle.regatta_board.specs.Table.{Kept}
use Rattle.regatta_board.proofs.KeptFacts.{held_is}
use Rattle.regatta_board.proofs.LawfulJournals.{lawful_orderly}
use Rattle.regatta_board.proofs.LedgerLemmas.{on_kept}
use Rattle.regatta_board.proofs.ledger.Ledger.held.Goals as goal

pub returns-clause-value : goal.returns-clause-value
returns-clause-value c boat hers =
    let l = c.args.self.now in
    c.held.ensures.value
    ∙ held_is l.rules l.entries (lawful_orderly l.rules l.entries c.kept.ensures.lawful)
    c.kept.result.now c.kept.ensures.value c.args.race c.held.ensures.range boat hers

pub returns-clause-sheet : goal.returns-clause-sheet
returns-clause-sheet c =
    c.held.ensures.value
    ∙ ap (λ (k : Kept). get_or (sheet_in k c.args.race).held c.args.number nothing_held)
    c.kept.ensures.value

pub returns-clause-on : goal.returns-clause-on
returns-clause-on c =
    on_kept c.args.self.now.rules c.args.self.now.entries c.kept.result.now c.kept.ensures.value
    c.kept.ensures.whole c.args.race c.held.ensures.range c.args.number c.requires
