use Rattle.std.proofs.Common.{arith, rules, ◌≡◌, ◌++◌, ◌≤◌, ◌+◌, length, length-append, take}
use Rattle.std.proofs.lemmas.List.{length-take}
use Rattle.regatta_streams.proofs.KnownBytes.{consumes-then}
use Rattle.regatta_streams.proofs.whole.read_text.Goals as goal

-- a piece that found no memory was read, too
pub returns-then-is_err-clause-taken : goal.returns-then-is_err-clause-taken
returns-then-is_err-clause-taken g c =
    let so_far = c.loop-buffer.text.items in
    let piece = take c.in-Ok.count c.read.new.buf in
    let room : length c.read.new.buf ≡ c.min-room.result = search rules in (
      so_far ++ piece,
      consumes-then _ _ _ so_far piece c.loop-buffer.invariant.took c.in-Ok.ensures.bytes.0,
      (let bound : length (so_far ++ piece) ≤ c.args.limit + 1 = omega (
        arith,
        length-append so_far piece,
        length-take c.in-Ok.count c.read.new.buf,
        c.in-Ok.ensures.bound,
      ) in bound),
    )
