use Rattle.std.proofs.Common.{ap, map, ◌∙◌}
use Rattle.regatta_scores.specs.Details.{placed_groups}
use Rattle.regatta_scores.specs.RacePoints.{journal_race}
use Rattle.regatta_board.specs.Details.{sail_group}
use Rattle.regatta_board.proofs.Maps.{map_map}
use Rattle.regatta_explain.specs.Made.{group_by, groups_of}
use Rattle.regatta_explain.proofs.race_parts.race_groups.Goals as goal

pub returns : goal.returns
unfolding groups_of
returns c =
    let race = journal_race c.args.board.now.rules c.args.board.now.entries c.args.race in
    c.new.ensures ∙ c.in_ok-parts.ensures
    ∙ ap (map group_by) (c.as_slice.ensures ∙ c.in_ok-groups.ensures)
    ∙ map_map group_by sail_group (placed_groups race)
