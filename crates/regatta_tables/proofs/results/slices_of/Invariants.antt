use Rattle.std.proofs.Common.{◌≡◌, map, take}
use Rattle.regatta_tables.proofs.results.slices_of.Given as goal

abbrev pub invariant-loop-field : goal.invariant-loop-field
invariant-loop-field l = map (λ s. s.now) l.slices.items
    ≡ map (λ f. f.items) (take l.field-index l.texts)
