use Rattle.std.proofs.Common.{◌≡◌, map, take}
use Rattle.std.specs.Prelude.{zip}
use Rattle.std.specs.List.{enumerate_from}
use Rattle.regatta_explain.specs.Made.{part_at}
use Rattle.regatta_explain.proofs.boat_parts.score_parts.Given as goal

-- the scores so far
abbrev pub invariant-loop-at : goal.invariant-loop-at
invariant-loop-at l =
    l.parts.items ≡ map (part_at l.races l.scorings l.number)
    (take l.at (enumerate_from 0 (zip l.races l.cells)))
