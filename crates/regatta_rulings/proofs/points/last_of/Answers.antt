use Rattle.std.proofs.Common.{ℕ, Option, ap, ◌∙◌}
use Rattle.regatta_board.specs.declared.details.SailGroup.{SailGroup}
use Rattle.regatta_rulings.specs.RulingPoints.{newer, shared_points}
use Rattle.regatta_rulings.proofs.PointFacts.{last_step}
use Rattle.regatta_rulings.proofs.points.last_of.Goals as goal

pub loop-group-preserved : goal.loop-group-preserved
loop-group-preserved c =
    c.later-last.ensures
    ∙ ap (λ (points : Option ℕ). newer points c.loop-group.last) (c.shared_points.ensures
    ∙ ap (λ (group : SailGroup). shared_points group.place group.sharing) c.group-item.is)
    ∙ last_step (λ (group : SailGroup). shared_points group.place group.sharing)
    c.args.groups.now c.loop-group.group-index c.group-item.result c.loop-group.last
    c.loop-group-test.true c.loop-group.invariant
