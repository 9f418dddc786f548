use Rattle.std.specs.Option.{option_map}
use Rattle.regatta_scores.specs.declared.sheet.Change.TheVariants.{AddBoat}
use Rattle.regatta_scores.specs.Sheet.{Sheet}
use Rattle.regatta_scores.specs.Changes.{after}
use Rattle.regatta_board.proofs.Maps.{pushed_more, pushed_all}
use Rattle.regatta_board.proofs.sheets.each_with_boat.Goals as goal

pub loop-sheet-preserved : goal.loop-sheet-preserved
loop-sheet-preserved c =
    pushed_more (option_map (λ (found : Sheet). after found AddBoat)) c.args.sheets.now
    c.loop-sheet.sheet-index c.sheet-item.result c.in_ok-with_boat.field-0 c.loop-sheet.new.items
    c.push.new.self.items c.loop-sheet-test.true c.sheet-item.is c.in_ok-with_boat.ensures
    c.loop-sheet.invariant c.in_ok-push.ensures.items

pub returns : goal.returns
returns c =
    pushed_all (option_map (λ (found : Sheet). after found AddBoat)) c.args.sheets.now
    c.loop-sheet.sheet-index c.loop-sheet.new.items c.loop-sheet-test.false c.loop-sheet.invariant
