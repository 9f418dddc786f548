use Rattle.std.proofs.Common.{List, ap, filter, map, ◌∙◌}
use Rattle.regatta_terms.specs.Rules.{RulesParts}
use Rattle.regatta_scores.specs.declared.table.Row.{Row}
use Rattle.regatta_scores.specs.declared.table.Standing.{Standing}
use Rattle.regatta_scores.specs.Standing.{standing}
use Rattle.regatta_preview.specs.Moves.{has_moved, move_since, moves}
use Rattle.regatta_preview.proofs.moves.moves_since.Goals as goal

pub returns : goal.returns
unfolding moves
returns c =
    let first = c.args.first.now in
    c.new.ensures ∙ c.in_ok-moves.ensures
    ∙ ap (λ (rows : List Row). filter has_moved (map (move_since first.rules first.entries) rows))
    (c.as_slice.ensures ∙ ap (λ (s : Standing). s.rows) c.in_ok-table.ensures.value
    ∙ ap (λ (r : RulesParts). (standing r c.args.last.now.entries).rows) c.requires)
