use Rattle.std.proofs.Common.{◌≡◌, ◌-◌, [], length, map, take, get_or}
use Rattle.regatta_board.proofs.column.push_columns.Given as goal

-- the races so far
abbrev pub invariant-loop-race : goal.invariant-loop-race
invariant-loop-race l = record {
  made : l.found.items
      ≡ map (λ race. get_or l.columns (race - 1) []) (take l.race-index l.races);
  long : length l.found.items ≡ l.race-index;
}
