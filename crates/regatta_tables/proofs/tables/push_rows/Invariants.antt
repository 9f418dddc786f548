use Rattle.std.proofs.Common.{◌≡◌, ◌≤◌, ◌++◌, take, vec_capacity}
use Rattle.std.specs.List.{flat_map}
use Rattle.regatta_tables.specs.Lines.{line}
use Rattle.regatta_tables.specs.TableTexts.{row_words}
use Rattle.regatta_tables.proofs.tables.push_rows.Given as goal

-- the text ends in the rows so far
abbrev pub invariant-loop-row : goal.invariant-loop-row
invariant-loop-row l = record {
  text : l.out.items ≡ l.fn.out.items
      ++ flat_map (λ row. line (row_words row)) (take l.row-index l.rows);
  room : vec_capacity l.fn.out ≤ vec_capacity l.out;
}
