use Rattle.std.proofs.Common.{◌≡◌, ◌++◌, take, vec_capacity}
use Rattle.regatta_tables.proofs.pieces.push_into_room.Given as goal

-- the text ends in the bytes so far
abbrev pub invariant-loop-byte : goal.invariant-loop-byte
invariant-loop-byte l = record {
  text : l.text.items ≡ l.fn.out.items ++ take l.byte-index l.piece;
  room : vec_capacity l.text ≡ vec_capacity l.fn.out;
}
