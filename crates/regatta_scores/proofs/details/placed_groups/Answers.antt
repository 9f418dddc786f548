use Rattle.std.proofs.Common.{◌<◌, ◌∙◌, ◌≡◌, All, List, length, map, sym}
use Rattle.std.proofs.Math.Path.{subst}
use Rattle.regatta_scores.specs.Details.{placed_groups, sheet_group}
use Rattle.regatta_scores.specs.RacePoints.{race_of}
use Rattle.regatta_scores.specs.declared.details.SheetGroup.{SheetGroup}
use Rattle.regatta_scores.proofs.Placed.{groups_within}
use Rattle.regatta_scores.proofs.details.placed_groups.Goals as goal

pub returns-clause-within : goal.returns-clause-within
returns-clause-within c =
    let sheet = c.args.sheet.now in
    let is : c.new.result ≡ map sheet_group (placed_groups (race_of sheet.order sheet.held)) =
    c.new.ensures ∙ c.in_ok-groups.ensures
    ∙ (λ i. map sheet_group
    (placed_groups (race_of (c.order.ensures.value i) (c.all_held.ensures i)))) in
    subst (λ (groups : List SheetGroup).
    All (λ group. All (λ boat. boat < length sheet.held) group.boats) groups) (sym is)
    (groups_within sheet.order sheet.held c.order.ensures.sheet.in_range)
