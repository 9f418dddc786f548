use Rattle.std.proofs.Common.{◌≡◌, map, take}
use Rattle.regatta_explain.specs.AfterRaces.{rank_by}
use Rattle.regatta_explain.proofs.after_parts.rank_parts.Given as goal

-- the ranks so far
abbrev pub invariant-loop-rank : goal.invariant-loop-rank
invariant-loop-rank l = l.parts.items ≡ map rank_by (take l.rank-index l.ranks)
