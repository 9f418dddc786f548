use Rattle.std.proofs.Common.{sym, arith, ◌+◌, ◌∙◌}
use Rattle.regatta_explain.proofs.Unlike.{none_left}
use Rattle.regatta_explain.proofs.separations.first_difference.Goals as goal

pub returns : goal.returns
returns c =
    sym (c.loop-i.invariant
    ∙ none_left c.args.first.now c.args.second.now (c.loop-i.i + 1) c.loop-i.i c.shorter-count.result
    (omega (arith, c.loop-i-test.false)) c.shorter-count.ensures.one)
