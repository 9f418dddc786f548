use Rattle.std.proofs.Common.{◌≡◌, map, take}
use Rattle.regatta_explain.specs.Explained.{race_rows}
use Rattle.regatta_explain.proofs.race_parts.rows_of.Given as goal

-- the races so far
abbrev pub invariant-loop-race : goal.invariant-loop-race
invariant-loop-race l =
    l.rows.items ≡ map (race_rows l.board.rules l.board.entries) (take l.race-index l.races)
