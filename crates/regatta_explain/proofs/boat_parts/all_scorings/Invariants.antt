use Rattle.std.proofs.Common.{◌≡◌, map, take}
use Rattle.regatta_explain.specs.Made.{scorings_of}
use Rattle.regatta_explain.proofs.boat_parts.all_scorings.Given as goal

-- the races so far
abbrev pub invariant-loop-race : goal.invariant-loop-race
invariant-loop-race l =
    l.all.items ≡ map (scorings_of l.board.rules l.board.entries) (take l.race-index l.races)
