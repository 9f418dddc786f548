use Rattle.std.proofs.Common.{◌∙◌, arith}
use Rattle.regatta_scores.proofs.SharedOut.{written_whole}
use Rattle.regatta_scores.proofs.Walked.{walked}
use Rattle.regatta_scores.proofs.walk.scores.Goals as goal

pub returns : goal.returns
returns c =
    let bare = c.in_ok-scores.scores in
    let new = c.rescore_all.new.scores in
    written_whole new bare.items bare.len
    (omega (arith, c.rescore_all.ensures.one_each, c.deref_mut.ensures.len))
    ∙ walked c.args.rules.now c.args.sheet.now c.all_held-held.result.now bare.items new
    c.in_ok-dnf.dnf c.all_held-held.ensures
    (rw c.order-order.ensures.value at c.in_ok-scores.ensures)
    (rw c.order-order.ensures.value at c.in_ok-dnf.ensures.value)
    (rw c.deref_mut.ensures.value at c.rescore_all.ensures)
