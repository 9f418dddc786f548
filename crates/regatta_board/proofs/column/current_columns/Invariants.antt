use Rattle.std.proofs.Common.{◌≡◌, ◌-◌, [], length, map, take, get_or, vec_capacity, vec_len}
use Rattle.std.specs.Option.{option_copied}
use Rattle.regatta_board.specs.Scoring.{with_column}
use Rattle.regatta_board.proofs.column.current_columns.Given as goal

-- the races so far, and room for the others
abbrev pub invariant-loop-race : goal.invariant-loop-race
invariant-loop-race l = record {
  made : l.found.items
      ≡ map (λ race. get_or (with_column l.old (option_copied l.new)) (race - 1) []) (take l.race-index l.races);
  long : vec_len l.found ≡ l.race-index;
  room : vec_capacity l.found ≡ length l.races;
}
