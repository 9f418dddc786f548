use Rattle.std.proofs.Common.{◌≡◌, ◌∙◌, ℕ, ap, arith, length, map, take}
use Rattle.std.proofs.Math.Seq.{take-length}
use Rattle.regatta_board.specs.RanksAfter.{rank_at}
use Rattle.regatta_board.proofs.scoring.ranks.sorted_ranks.Goals as goal

pub returns : goal.returns
returns c =
    let order = c.in_ok-order.order.items in
    let rank = rank_at c.args.boats.now c.args.places.now in
    let all : ◌≡◌ {A = ℕ} c.loop-k.k (length order) = omega arith in
    c.loop-k.invariant.made ∙ ap (λ k. map rank (take k order)) all
    ∙ ap (map rank) (take-length order ∙ c.in_ok-order.ensures.value)
