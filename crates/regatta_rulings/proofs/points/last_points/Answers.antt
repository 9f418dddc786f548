use Rattle.std.proofs.Common.{List, None, ap, ◌∙◌}
use Rattle.std.specs.List.{filter_map, last_or}
use Rattle.regatta_scores.specs.RacePoints.{journal_race}
use Rattle.regatta_board.specs.declared.details.SailGroup.{SailGroup}
use Rattle.regatta_rulings.specs.RulingPoints.{shared_points}
use Rattle.regatta_rulings.proofs.PointFacts.{last_is}
use Rattle.regatta_rulings.proofs.points.last_points.Goals as goal

pub returns : goal.returns
returns c =
    c.last_of.ensures
    ∙ ap (λ (groups : List SailGroup). last_or None
    (filter_map (λ (group : SailGroup). shared_points group.place group.sharing) groups))
    (c.as_slice.ensures ∙ c.in_ok-groups.ensures)
    ∙ last_is (journal_race c.args.board.now.rules c.args.board.now.entries c.args.race)
