use Rattle.std.proofs.Common.{◌+◌, ◌++◌, ◌∷◌, [], cond, sym, ◌∙◌}
use Rattle.regatta_explain.specs.Explained.{is_recorded}
use Rattle.regatta_explain.proofs.RowFacts.{filter_next}
use Rattle.regatta_explain.proofs.race_parts.recorded_races.Goals as goal

pub loop-i-preserved : goal.loop-i-preserved
loop-i-preserved c =
    let test = is_recorded c.args.board.now.rules c.args.board.now.entries in
    let i = c.loop-i.i in
    c.in_ok-push_recorded.ensures
    ∙ (λ t. c.loop-i.invariant t ++ cond (test (i + 1)) ((i + 1) ∷ []) [])
    ∙ sym (filter_next test i)
