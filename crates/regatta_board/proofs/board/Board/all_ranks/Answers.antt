use Rattle.std.proofs.Common.{◌+◌, ◌++◌, ◌∷◌, [], ◌∙◌, arith, sym}
use Rattle.std.proofs.lemmas.List.FromFn.{map-range_with_len_more}
use Rattle.regatta_board.specs.RanksAfter.{ranks_after}
use Rattle.regatta_board.proofs.board.Board.all_ranks.Goals as goal

pub loop-i-preserved : goal.loop-i-preserved
loop-i-preserved c =
    let own = c.args.self.now in
    c.in_ok-push.ensures.items
    ∙ (λ t. c.loop-i.invariant t ++ c.in_ok-ranks_after.ensures t ∷ [])
    ∙ sym (map-range_with_len_more (ranks_after own.rules own.entries) 1 c.loop-i.i
    (c.loop-i.i + 1) (omega arith))
