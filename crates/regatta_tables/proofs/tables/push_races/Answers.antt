use Rattle.std.proofs.Common.{rules, arith, ◌≡◌, ◌<◌, ◌+◌, [], ◌∷◌, ap, map, take}
use Rattle.std.proofs.Common.{length, length-append, decimal, vec_len, vec_capacity}
use Rattle.regatta_terms.specs.Words.{spaced}
use Rattle.regatta_tables.proofs.LineFacts.{no_room_for_cells, start_stays}
use Rattle.regatta_tables.proofs.tables.push_races.Goals as goal

pub returns-in_err-push_pieces : goal.returns-in_err-push_pieces
returns-in_err-push_pieces c =
    let stays : take (vec_len c.args.out.now) c.push_pieces.new.out.items ≡ c.args.out.now.items =
    start_stays _ _ _ _ _ _ c.args.out.now.ok.0 c.loop-race.out.ok.0 c.loop-race.invariant.text
    c.in_err-push_pieces.ensures.err in
    let word : c.as_bytes.result.now ≡ decimal c.race-item.result = cc in
    let next : vec_capacity c.loop-race.out < vec_len c.loop-race.out
    + length (32 ∷ decimal c.race-item.result) = omega (
      arith,
      c.in_err-push_pieces.ensures.full,
      ap length word,
      length-append c.as_bytes.result.now [],
    ) in
    let full : vec_capacity c.args.out.now < vec_len c.args.out.now
    + length (spaced (map decimal c.args.races.now)) =
    no_room_for_cells decimal c.args.races.now _ _ _ _ _ _ _ _ c.loop-race-test.true
    c.race-item.is c.loop-race.invariant.text c.args.out.now.ok.0 c.loop-race.out.ok.0
    c.loop-race.invariant.room next in
    record { ok = search rules; err = search rules; room = search rules; full = search rules }
