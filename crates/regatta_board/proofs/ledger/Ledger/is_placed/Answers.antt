use Rattle.std.proofs.Common.{◌∙◌, ap, sym, length, nat_lt, nat_eq}
use borrow.Author.Tests.{lt-ltb}
use Rattle.regatta_scores.specs.Journal.{same_sail, entered}
use Rattle.regatta_scores.specs.Order.{stands_in}
use Rattle.regatta_board.specs.Step.{sheet_in}
use Rattle.regatta_board.specs.Table.{Kept}
use Rattle.regatta_board.proofs.Found.{passes}
use Rattle.regatta_board.proofs.KeptFacts.{placed_is}
use Rattle.regatta_board.proofs.LawfulJournals.{lawful_orderly}
use Rattle.regatta_board.proofs.LedgerLemmas.{on_kept}
use Rattle.regatta_board.proofs.ledger.Ledger.is_placed.Goals as goal

pub returns-clause-value : goal.returns-clause-value
returns-clause-value c boat hers =
    let l = c.args.self.now in
    c.placed.ensures.value
    ∙ placed_is l.rules l.entries (lawful_orderly l.rules l.entries c.kept.ensures.lawful)
    c.kept.result.now c.kept.ensures.value c.args.race c.placed.ensures.range boat hers
    (sym (passes (same_sail boat) (entered l.entries))
    ∙ ap (λ n. nat_lt n (length (entered l.entries))) (sym hers)
    ∙ lt-ltb c.args.number (length (entered l.entries)) c.requires)

pub returns-clause-sheet : goal.returns-clause-sheet
returns-clause-sheet c =
    c.placed.ensures.value
    ∙ ap (λ (k : Kept). stands_in nat_eq c.args.number (sheet_in k c.args.race).order)
    c.kept.ensures.value

pub returns-clause-on : goal.returns-clause-on
returns-clause-on c =
    on_kept c.args.self.now.rules c.args.self.now.entries c.kept.result.now c.kept.ensures.value
    c.kept.ensures.whole c.args.race c.placed.ensures.range c.args.number c.requires
