use Rattle.std.proofs.Common.{◌≡◌, ◌≤◌, ◌++◌, take, vec_capacity}
use Rattle.std.specs.List.{flat_map}
use Rattle.regatta_json.proofs.pieces.push_pieces.Given as goal

-- the text ends in the pieces so far
abbrev pub invariant-loop-piece : goal.invariant-loop-piece
invariant-loop-piece l = record {
  text : l.out.items ≡ l.fn.out.items ++ flat_map (λ piece. piece.now)
      (take l.piece-index l.pieces);
  room : vec_capacity l.fn.out ≤ vec_capacity l.out;
}
