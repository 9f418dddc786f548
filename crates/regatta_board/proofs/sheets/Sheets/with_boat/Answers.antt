use Rattle.std.proofs.Common.{◌∙◌, ◌<◌, All, ap, map}
use Rattle.std.specs.Option.{option_map}
use Rattle.regatta_scores.specs.Sheet.{boats}
use Rattle.regatta_board.specs.Refusals.{limits}
use Rattle.regatta_board.specs.SheetList.{sheets_of}
use Rattle.regatta_board.proofs.BlankSheets.{with_boat, changed_few, more_after, alike_after}
use Rattle.regatta_board.proofs.sheets.Sheets.with_boat.Goals as goal

pub each_with_boat-requires : goal.each_with_boat-requires
each_with_boat-requires c =
    let s = c.self.inside in
    let few : All (λ sheet. boats sheet < limits.boats) (sheets_of s.blank s.changed.items) =
    rw (← c.self.view_is) at c.requires.few in
    rw c.deref.ensures.value (changed_few s.blank s.changed.items c.self.invariant few)

pub invariant_of-result : goal.invariant_of-result
invariant_of-result c =
    let s = c.self.inside in
    alike_after s.blank s.changed.items c.self.invariant c.in_ok-blank.blank
    c.in_ok-changed.changed.items c.in_ok-blank.ensures
    (c.in_ok-changed.ensures ∙ ap (map (option_map with_boat)) c.deref.ensures.value)

pub returns : goal.returns
returns c =
    let s = c.self.inside in
    more_after s.blank s.changed.items c.self.invariant _ c.in_ok-changed.changed.items
    c.in_ok-blank.ensures
    (c.in_ok-changed.ensures ∙ ap (map (option_map with_boat)) c.deref.ensures.value)
    ∙ ap (map with_boat) c.self.view_is
