use Rattle.std.proofs.Common.{◌≡◌, ◌++◌, codes, decimal, map, take}
use Rattle.regatta_tables.proofs.results.push_race_fields.Given as goal

abbrev pub invariant-loop-race : goal.invariant-loop-race
invariant-loop-race l = map (λ field. field.items) l.fields.items
    ≡ map (λ field. field.items) l.fn.fields.items
    ++ map (λ race. codes "R" ++ decimal race) (take l.race-index l.races)
