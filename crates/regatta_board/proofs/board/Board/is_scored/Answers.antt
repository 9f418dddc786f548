use Rattle.std.proofs.Common.{◌-◌, ap, false, get_or, ◌∙◌}
use Rattle.regatta_board.specs.Table.{Kept}
use Rattle.regatta_board.proofs.KeptFacts.{counts_are}
use Rattle.regatta_board.proofs.board.Board.is_scored.Goals as goal

pub returns : goal.returns
returns c =
    let race = c.args.race in
    c.is_scored.ensures.value
    ∙ ap (λ (kept : Kept). get_or kept.counts (race - 1) false) c.kept.ensures.value
    ∙ counts_are c.args.self.now.rules c.args.self.now.entries race c.is_scored.ensures.range
