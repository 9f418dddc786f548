use Rattle.std.proofs.Common.{◌≡◌, ◌≤◌, ◌++◌, take, vec_capacity}
use Rattle.std.specs.List.{flat_map}
use Rattle.regatta_json.specs.Rows.{next_text}
use Rattle.regatta_json.proofs.rows.push_rest.Given as goal

-- the text ends in the rows so far
abbrev pub invariant-loop-item : goal.invariant-loop-item
invariant-loop-item g l = record {
  text : l.out.items ≡ l.fn.out.items
      ++ flat_map (next_text l.fn.separator (g.W.ItemWriter.text l.fn.writer)) (take l.item-index l.items);
  room : vec_capacity l.fn.out ≤ vec_capacity l.out;
}
