use Rattle.std.proofs.Common.{rules, arith, ◌≡◌, ◌<◌, ◌+◌, ◌++◌, map, take, length, vec_len}
use Rattle.std.proofs.Common.{vec_capacity, length-append, length-take}
use Rattle.regatta_terms.specs.Words.{spaced}
use Rattle.regatta_tables.specs.TableTexts.{cell_text}
use Rattle.regatta_tables.proofs.LineFacts.{no_room_for_cells}
use Rattle.regatta_tables.proofs.rows.put_cells.Goals as goal

pub returns-in_err-place-clause-full : goal.returns-in_err-place-clause-full
returns-in_err-place-clause-full c =
    let before = c.args.out.now.items ++ take c.args.from c.args.page.now in
    let text = c.loop-cell.out.items ++ take c.loop-cell.at c.loop-cell.page in
    let first : vec_len c.args.out.now + c.args.from ≡ length before = omega (
      arith,
      length-append c.args.out.now.items (take c.args.from c.args.page.now),
      length-take c.args.from c.args.page.now,
      c.args.out.now.ok.0,
    ) in
    let last : vec_len c.loop-cell.out + c.loop-cell.at ≡ length text = omega (
      arith,
      length-append c.loop-cell.out.items (take c.loop-cell.at c.loop-cell.page),
      length-take c.loop-cell.at c.loop-cell.page,
      c.loop-cell.out.ok.0,
    ) in
    let full : vec_capacity c.args.out.now < vec_len c.args.out.now + c.args.from
    + length (spaced (map cell_text c.args.cells.now)) =
    no_room_for_cells cell_text c.args.cells.now _ _ before text _ _ _ _ c.loop-cell-test.true
    c.cell-item.is c.loop-cell.invariant.text first last c.loop-cell.invariant.room
    (omega (arith, c.in_err-place.ensures.full)) in
    search rules
