use Rattle.std.proofs.Common.{rules, arith, ◌<◌, ◌+◌, map, length, codes, decimal}
use Rattle.std.proofs.Common.{vec_len, vec_capacity}
use Rattle.std.proofs.lemmas.Grind.{common_steps}
use Rattle.regatta_tables.specs.Lines.{line}
use Rattle.regatta_tables.specs.TableTexts.{head_words}
use Rattle.regatta_tables.proofs.LineFacts.{line_of_pieces, no_room_for_end, no_room_for_rest}
use Rattle.regatta_tables.proofs.tables.push_head.Goals as goal

pub returns : goal.returns
returns c =
    let text = line_of_pieces _ (codes "TABLE") c.as_bytes-boats.result.now
    (codes "RACES") _ _ _ _ c.in_ok-push_pieces.ensures.ok c.in_ok-push_races.ensures.ok
    c.in_ok-push.ensures.items in
    let there = rw (
      c.as_bytes-boats.ensures.value,
      c.format.ensures.text,
      c.as_slice.ensures,
      c.as_slice-2.ensures,
    ) at text in
    record { ok = there; err = tt; room = search rules; full = tt }

pub returns-in_err-push_races : goal.returns-in_err-push_races
returns-in_err-push_races c =
    let there = no_room_for_rest c.args.out.now.items (codes "TABLE") c.as_bytes-boats.result.now
    (codes "RACES") _ (map decimal c.as_slice-2.result.now) _ _ _ _
    c.in_ok-push_pieces.ensures.ok c.args.out.now.ok.0 c.push_pieces.new.out.ok.0
    c.in_ok-push_pieces.ensures.room c.in_err-push_races.ensures.full in
    let full : vec_capacity c.args.out.now < vec_len c.args.out.now
    + length (line (head_words c.args.standing.now)) = rw (
      c.as_bytes-boats.ensures.value,
      c.format.ensures.text,
      c.as_slice.ensures,
      c.as_slice-2.ensures,
    ) at there in
    record { ok = search rules; err = grind (arith, common_steps); room = search rules; full = search rules }

pub returns-in_err-push : goal.returns-in_err-push
returns-in_err-push c =
    let there = no_room_for_end c.args.out.now.items (codes "TABLE") c.as_bytes-boats.result.now
    (codes "RACES") _ _ (map decimal c.as_slice-2.result.now) (vec_capacity c.args.out.now) _ _ _
    c.in_ok-push_pieces.ensures.ok c.in_ok-push_races.ensures.ok c.args.out.now.ok.0
    c.push_races.new.out.ok.0 (omega arith) c.in_err-push.ensures.full in
    let full : vec_capacity c.args.out.now < vec_len c.args.out.now
    + length (line (head_words c.args.standing.now)) = rw (
      c.as_bytes-boats.ensures.value,
      c.format.ensures.text,
      c.as_slice.ensures,
      c.as_slice-2.ensures,
    ) at there in
    record { ok = search rules; err = grind (arith, common_steps); room = search rules; full = search rules }
