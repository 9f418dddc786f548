use Rattle.std.proofs.Common.{arith, rules, ◌<◌, ◌+◌, length, vec_len, vec_capacity}
use Rattle.std.specs.List.{flat_map}
use Rattle.std.proofs.lemmas.Grind.{common_steps}
use Rattle.regatta_json.proofs.Texts.{no_room_for_piece}
use Rattle.regatta_json.proofs.pieces.push_pieces.Goals as goal

pub returns-in_err-extend_from_slice : goal.returns-in_err-extend_from_slice
returns-in_err-extend_from_slice c =
    let full : vec_capacity c.args.out.now < vec_len c.args.out.now + length
    (flat_map (λ piece. piece.now) c.args.pieces.now) =
    no_room_for_piece _ _ _ _ _ _ _ _ _ c.loop-piece-test.true c.loop-piece.invariant.text
    c.args.out.now.ok.0 c.loop-piece.out.ok.0 c.loop-piece.invariant.room
    c.in_err-extend_from_slice.ensures.full in
    record { ok = search rules; err = grind (arith, common_steps); room = search rules; full = search rules }
