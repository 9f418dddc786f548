use Rattle.std.proofs.Common.{◌≡◌, None, take}
use Rattle.std.specs.List.{filter_map, last_or}
use Rattle.regatta_rulings.specs.RulingPoints.{shared_points}
use Rattle.regatta_rulings.proofs.points.last_of.Given as goal

abbrev pub invariant-loop-group : goal.invariant-loop-group
invariant-loop-group l = l.last
    ≡ last_or None (filter_map (λ group. shared_points group.place group.sharing)
    (take l.group-index l.groups))
