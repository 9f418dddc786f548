use Rattle.std.proofs.Common.{◌≡◌, ◌≤◌, ◌+◌, length, map, take, sum_by}
use Rattle.std.specs.List.{enumerate_from}
use Rattle.regatta_scores.specs.Details.{placed_group, sheet_group}
use Rattle.regatta_scores.specs.RacePoints.{race_of, finishers}
use Rattle.regatta_scores.proofs.details.each_group.Given as goal

-- the groups so far, and the place of the next
abbrev pub invariant-loop-i : goal.invariant-loop-i
invariant-loop-i l = record {
  made : l.groups.items ≡ map sheet_group (map (placed_group (race_of l.order l.held))
      (take l.i (enumerate_from 0 l.order)));
  next_place : l.place ≡ 1 + sum_by (finishers (race_of l.order l.held)) (take l.i l.order);
  bound : l.place ≤ 1 + sum_by length (take l.i l.order);
}
