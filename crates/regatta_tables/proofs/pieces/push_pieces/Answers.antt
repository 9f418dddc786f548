use Rattle.std.proofs.Common.{rules, arith, ◌<◌, ◌+◌, length, vec_len, vec_capacity}
use Rattle.std.specs.List.{flat_map}
use Rattle.std.proofs.lemmas.Grind.{common_steps}
use Rattle.regatta_tables.proofs.LineFacts.{no_room, pushed_piece}
use Rattle.regatta_tables.proofs.pieces.push_pieces.Goals as goal

pub returns-in_err-push_piece : goal.returns-in_err-push_piece
returns-in_err-push_piece c =
    let full : vec_capacity c.args.out.now < vec_len c.args.out.now + length
    (flat_map (λ piece. piece.now) c.args.pieces.now) =
    no_room _ _ _ _ _ _ _ _ _ c.loop-piece-test.true c.loop-piece.invariant.text
    c.args.out.now.ok.0 c.loop-piece.out.ok.0 c.loop-piece.invariant.room
    c.in_err-push_piece.ensures.full in
    record { ok = search rules; err = grind (arith, common_steps); room = search rules; full = search rules }

pub loop-piece-preserved : goal.loop-piece-preserved
loop-piece-preserved c = record {
  text = pushed_piece _ _ _ _ _ _ c.loop-piece-test.true c.loop-piece.invariant.text
      c.in_ok-push_piece.ensures.ok;
  room = omega arith;
}
