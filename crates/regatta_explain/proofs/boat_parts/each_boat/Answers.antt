use Rattle.std.proofs.Common.{sym}
use Rattle.std.proofs.Math.Path.{subst}
use Rattle.regatta_explain.specs.Made.{IsRowOf}
use Rattle.regatta_explain.proofs.boat_parts.each_boat.Goals as goal

pub boat_rows-requires-clause-row : goal.boat_rows-requires-clause-row
boat_rows-requires-clause-row c =
    subst (IsRowOf c.args.board.now.rules c.args.board.now.entries) (sym c.row-item.is)
    (c.requires.rows c.loop-row.row-index c.row-item.result c.loop-row-test.true)
