use Rattle.std.proofs.Common.{rules, ◌≡◌, ◌<◌, ◌+◌, take, length, vec_len, vec_capacity}
use Rattle.std.specs.List.{flat_map}
use Rattle.regatta_json.specs.Rows.{next_text}
use Rattle.regatta_json.proofs.Texts.{no_room, start_stays}
use Rattle.regatta_json.proofs.rows.push_rest.Goals as goal

pub returns-in_err-push_next : goal.returns-in_err-push_next
returns-in_err-push_next g c =
    let stays : take (vec_len c.args.out.now) c.push_next.new.out.items ≡ c.args.out.now.items =
    start_stays _ _ _ _ _ _ c.args.out.now.ok.0 c.loop-item.out.ok.0 c.loop-item.invariant.text
    c.in_err-push_next.ensures.err in
    let full : vec_capacity c.args.out.now < vec_len c.args.out.now
    + length (flat_map (next_text c.args.separator.now (g.W.ItemWriter.text c.args.writer.now)) c.args.items.now) =
    no_room (next_text c.args.separator.now (g.W.ItemWriter.text c.args.writer.now)) c.args.items.now _ _ _ _ _ _ _ _
    c.loop-item-test.true c.item-item.is c.loop-item.invariant.text c.args.out.now.ok.0
    c.loop-item.out.ok.0 c.loop-item.invariant.room c.in_err-push_next.ensures.full in
    record { ok = search rules; err = search rules; room = search rules; full = search rules }
