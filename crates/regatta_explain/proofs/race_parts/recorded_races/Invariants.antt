use Rattle.std.proofs.Common.{◌≡◌, filter}
use Rattle.std.specs.List.{range_with_len}
use Rattle.regatta_explain.specs.Explained.{is_recorded}
use Rattle.regatta_explain.proofs.race_parts.recorded_races.Given as goal

-- the races so far
abbrev pub invariant-loop-i : goal.invariant-loop-i
invariant-loop-i l =
    l.races.items ≡ filter (is_recorded l.board.rules l.board.entries) (range_with_len 1 l.i)
