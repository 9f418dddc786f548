use Rattle.std.proofs.Common.{◌∙◌, ap, sym}
use Rattle.std.specs.List.{position}
use Rattle.regatta_scores.specs.Journal.{same_sail, entered}
use Rattle.regatta_board.specs.Table.{Kept}
use Rattle.regatta_board.proofs.Found.{at_position, no_position}
use Rattle.regatta_board.proofs.ledger.Ledger.number.Goals as goal

pub returns-in-Some-clause-found : goal.returns-in-Some-clause-found
returns-in-Some-clause-found c =
    at_position (same_sail c.args.sail) (entered c.args.self.now.entries) c.in-Some.number
    (ap (λ (k : Kept). position (same_sail c.args.sail) k.sails) (sym c.kept.ensures.value)
    ∙ sym c.number.ensures ∙ c.in-Some.is)

pub returns-in-None-clause-out : goal.returns-in-None-clause-out
returns-in-None-clause-out c =
    no_position (same_sail c.args.sail) (entered c.args.self.now.entries)
    (ap (λ (k : Kept). position (same_sail c.args.sail) k.sails) (sym c.kept.ensures.value)
    ∙ sym c.number.ensures ∙ c.in-None.is)
