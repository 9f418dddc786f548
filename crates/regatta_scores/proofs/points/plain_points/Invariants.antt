use Rattle.std.proofs.Common.{◌≡◌, nat_eq, map, length, vec_len, vec_capacity}
use Rattle.std.specs.List.{range_with_len}
use Rattle.regatta_scores.specs.RacePoints.{plain, race_of}
use Rattle.regatta_scores.proofs.points.plain_points.Given as goal

-- the points of the boats so far, and room for the others
abbrev pub invariant-loop-boat : goal.invariant-loop-boat
invariant-loop-boat l = record {
  made : l.points.items
      ≡ map (plain nat_eq l.rules (race_of l.fn.sheet.order l.fn.sheet.held)) (range_with_len 0 l.boat);
  long : vec_len l.points ≡ l.boat;
  room : vec_capacity l.points ≡ length l.held;
}
