use Rattle.std.proofs.Common.{List, ap, filter, map, ◌∙◌}
use Rattle.regatta_terms.specs.Rules.{RulesParts}
use Rattle.regatta_scores.specs.declared.table.Row.{Row}
use Rattle.regatta_scores.specs.declared.table.Standing.{Standing}
use Rattle.regatta_scores.specs.Standing.{standing}
use Rattle.regatta_preview.specs.Changes.{change_since, changes, changes_between, has_changed}
use Rattle.regatta_preview.proofs.changes.changes_since.Goals as goal

pub returns : goal.returns
unfolding changes changes_between
returns c =
    let first = c.in_ok-before.before in
    let last = c.in_ok-after.after in
    c.new.ensures ∙ c.in_ok-changes.ensures
    ∙ ap (λ (rows : List Row). filter has_changed (map (change_since first last) rows)) c.as_slice.ensures
    ∙ (λ t. changes_between (c.in_ok-before.ensures.value t)
    ((c.in_ok-after.ensures.value
    ∙ ap (λ (r : RulesParts). standing r c.args.last.now.entries) c.requires) t))
