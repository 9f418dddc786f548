use Rattle.std.proofs.Common.{◌≡◌, ◌∙◌, ◌<◌, ap, length, get_or, slice_set}
use Rattle.regatta_scores.specs.Sheet.{boats, empty_sheet}
use Rattle.regatta_board.specs.SheetList.{sheets_of}
use Rattle.regatta_board.proofs.BlankSheets.{put_in, alike_put}
use Rattle.regatta_board.proofs.sheets.Sheets.put.Goals as goal

pub invariant_of-self : goal.invariant_of-self
invariant_of-self c =
    let s = c.self.inside in
    let within : c.args.at < length (sheets_of s.blank s.changed.items) =
    rw (← c.self.view_is) at c.requires.within in
    let same : boats c.args.sheet
    ≡ boats (get_or (sheets_of s.blank s.changed.items) c.args.at (empty_sheet 0)) =
    rw (← c.self.view_is) at c.requires.alike in
    alike_put s.blank s.changed.items c.self.invariant c.args.at c.args.sheet within same

pub returns : goal.returns
returns c =
    let s = c.self.inside in
    put_in s.blank s.changed.items c.self.invariant c.args.at c.args.sheet
    ∙ ap (λ sheets. slice_set sheets c.args.at c.args.sheet) c.self.view_is
