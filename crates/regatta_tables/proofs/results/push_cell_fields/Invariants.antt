use Rattle.std.proofs.Common.{◌≡◌, ◌++◌, map, take}
use Rattle.regatta_tables.specs.TableTexts.{cell_text}
use Rattle.regatta_tables.proofs.results.push_cell_fields.Given as goal

abbrev pub invariant-loop-cell : goal.invariant-loop-cell
invariant-loop-cell l = map (λ field. field.items) l.fields.items
    ≡ map (λ field. field.items) l.fn.fields.items ++ map cell_text (take l.cell-index l.cells)
