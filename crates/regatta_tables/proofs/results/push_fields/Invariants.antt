use Rattle.std.proofs.Common.{◌≡◌, ◌++◌, map, take}
use Rattle.regatta_tables.proofs.results.push_fields.Given as goal

abbrev pub invariant-loop-text : goal.invariant-loop-text
invariant-loop-text l = map (λ field. field.items) l.fields.items
    ≡ map (λ field. field.items) l.fn.fields.items ++ map (λ text. text.now) (take l.text-index l.texts)
