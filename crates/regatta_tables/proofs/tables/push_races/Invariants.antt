use Rattle.std.proofs.Common.{◌≡◌, ◌≤◌, ◌++◌, map, take, decimal, vec_capacity}
use Rattle.regatta_terms.specs.Words.{spaced}
use Rattle.regatta_tables.proofs.tables.push_races.Given as goal

-- the text ends in the races so far
abbrev pub invariant-loop-race : goal.invariant-loop-race
invariant-loop-race l = record {
  text : l.out.items ≡ l.fn.out.items ++ spaced (map decimal (take l.race-index l.races));
  room : vec_capacity l.fn.out ≤ vec_capacity l.out;
}
