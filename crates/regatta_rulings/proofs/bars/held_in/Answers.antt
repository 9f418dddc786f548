use Rattle.std.proofs.Common.{ap, ◌∙◌}
use Rattle.regatta_scores.specs.Journal.{held}
use Rattle.regatta_terms.specs.declared.sail.Sail.{Sail}
use Rattle.regatta_rulings.proofs.bars.held_in.Goals as goal

pub returns : goal.returns
returns c =
    c.held.ensures
    ∙ ap (λ (boat : Sail). held c.args.board.now.entries c.args.race boat) c.number.ensures.hers
