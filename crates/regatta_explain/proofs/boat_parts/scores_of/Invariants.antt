use Rattle.std.proofs.Common.{◌≡◌, map, take}
use Rattle.regatta_explain.specs.Made.{score_in}
use Rattle.regatta_explain.proofs.boat_parts.scores_of.Given as goal

-- the races so far
abbrev pub invariant-loop-race : goal.invariant-loop-race
invariant-loop-race l =
    l.scores.items ≡ map (score_in l.number) (take l.race-index l.scorings)
