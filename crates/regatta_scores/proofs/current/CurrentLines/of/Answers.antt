use Rattle.std.proofs.Common.{◌∙◌, ap, arith, length, replicate}
use Rattle.std.proofs.lemmas.List.{length-replicate}
use Rattle.regatta_scores.specs.Current.{flags, looked_up}
use Rattle.regatta_scores.specs.KeptRanking.{is_new}
use Rattle.regatta_scores.proofs.Currents.{flagged_new, flags_long, looked_all, positions_long, still}
use Rattle.regatta_scores.proofs.current.CurrentLines.of.Goals as goal

pub invariant_of-result : goal.invariant_of-result
invariant_of-result c =
    ap length c.in_ok-positions.ensures
    ∙ positions_long (replicate (length c.args.old.now) 65535) 0 c.args.new.now
    ∙ length-replicate (length c.args.old.now) 65535

pub returns-clause-lines : goal.returns-clause-lines
returns-clause-lines c =
    ap (looked_up c.args.new.now c.args.old.now) c.in_ok-positions.ensures
    ∙ looked_all c.args.new.now c.args.old.now c.requires.each c.requires.few

pub returns-clause-flagged : goal.returns-clause-flagged
returns-clause-flagged c =
    flags_long c.args.new.now c.in_ok-positions.positions.items
    ∙ ap length c.in_ok-positions.ensures
    ∙ positions_long (replicate (length c.args.old.now) 65535) 0 c.args.new.now
    ∙ length-replicate (length c.args.old.now) 65535

pub returns-clause-still : goal.returns-clause-still
returns-clause-still c = λ boat h out.
    still c.args.new.now c.args.old.now c.in_ok-positions.positions.items boat
    (ap length c.in_ok-positions.ensures
    ∙ positions_long (replicate (length c.args.old.now) 65535) 0 c.args.new.now
    ∙ length-replicate (length c.args.old.now) 65535) h out

pub returns-clause-new : goal.returns-clause-new
returns-clause-new c = λ boat h.
    (let long = flags_long c.args.new.now c.in_ok-positions.positions.items
    ∙ ap length c.in_ok-positions.ensures
    ∙ positions_long (replicate (length c.args.old.now) 65535) 0 c.args.new.now
    ∙ length-replicate (length c.args.old.now) 65535 in
    ap (λ positions. is_new (flags c.args.new.now positions) boat) c.in_ok-positions.ensures
    ∙ flagged_new c.args.new.now (length c.args.old.now) boat c.requires.each c.requires.few
    (omega (arith, h, long)))
