use Rattle.std.proofs.Common.{◌≡◌, map, take}
use Rattle.std.specs.Prelude.{zip}
use Rattle.regatta_explain.specs.AfterRaces.{after_by}
use Rattle.regatta_explain.proofs.after_parts.after_each.Given as goal

-- the races so far
abbrev pub invariant-loop-i : goal.invariant-loop-i
invariant-loop-i l = l.all.items ≡ map after_by (take l.i (zip l.races l.ranks))
