use Rattle.std.proofs.Common.{◌≡◌, ◌≤◌, ◌<◌, ◌++◌, map, take, length, vec_len, vec_capacity}
use Rattle.regatta_terms.specs.Words.{spaced}
use Rattle.regatta_tables.specs.TableTexts.{cell_text}
use Rattle.regatta_tables.specs.declared.rows.TheConstants.{PAGE_ROOM}
use Rattle.regatta_tables.proofs.rows.put_cells.Given as goal

-- what was appended and what is on the page end in the cells so far
abbrev pub invariant-loop-cell : goal.invariant-loop-cell
invariant-loop-cell l = record {
  text : l.out.items ++ take l.at l.page
      ≡ (l.fn.out.items ++ take l.from l.fn.page) ++ spaced (map cell_text (take l.cell-index l.cells));
  before : take (vec_len l.fn.out) l.out.items ≡ l.fn.out.items;
  within : l.at < PAGE_ROOM;
  same : length l.page ≡ PAGE_ROOM;
  room : vec_capacity l.fn.out ≤ vec_capacity l.out;
}
