use Rattle.std.proofs.Common.{rules, arith, ◌≡◌, ◌<◌, ◌+◌, take, length, vec_len}
use Rattle.std.proofs.Common.{vec_capacity}
use Rattle.std.specs.List.{flat_map}
use Rattle.regatta_tables.specs.Lines.{line}
use Rattle.regatta_tables.specs.TableTexts.{row_words}
use Rattle.regatta_tables.proofs.LineFacts.{no_room_for_texts, start_stays, text_more}
use Rattle.regatta_tables.proofs.tables.push_rows.Goals as goal

pub loop-row-preserved : goal.loop-row-preserved
loop-row-preserved c = record {
  text = text_more (λ row. line (row_words row)) c.args.rows.now _ _ _ _ _ c.loop-row-test.true
      c.row-item.is c.loop-row.invariant.text c.in_ok-push_row.ensures.pushed.ok;
  room = omega arith;
}

pub returns-in_err-push_row : goal.returns-in_err-push_row
returns-in_err-push_row c =
    let stays : take (vec_len c.args.out.now) c.push_row.new.out.items ≡ c.args.out.now.items =
    start_stays _ _ _ _ _ _ c.args.out.now.ok.0 c.loop-row.out.ok.0 c.loop-row.invariant.text
    c.in_err-push_row.ensures.pushed.err in
    let full : vec_capacity c.args.out.now < vec_len c.args.out.now
    + length (flat_map (λ row. line (row_words row)) c.args.rows.now) =
    no_room_for_texts (λ row. line (row_words row)) c.args.rows.now _ _ _ _ _ _ _ _
    c.loop-row-test.true c.row-item.is c.loop-row.invariant.text c.args.out.now.ok.0
    c.loop-row.out.ok.0 c.loop-row.invariant.room c.in_err-push_row.ensures.pushed.full in
    record { ok = search rules; err = search rules; room = search rules; full = search rules }
