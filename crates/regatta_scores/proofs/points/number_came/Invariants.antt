use Rattle.std.proofs.Common.{◌≡◌, ◌≤◌, count_by, slice_index_or, None}
use Rattle.std.specs.List.{range_with_len}
use Rattle.regatta_scores.specs.Sheet.{nothing_held}
use Rattle.regatta_scores.specs.PlacedPoints.{came_with}
use Rattle.regatta_scores.proofs.points.number_came.Given as goal

-- the boats so far that came are counted
abbrev pub invariant-loop-boat : goal.invariant-loop-boat
invariant-loop-boat l = record {
  counted : l.count ≡ count_by (λ boat.
      came_with (slice_index_or l.held boat nothing_held) (slice_index_or l.placed boat None))
      (range_with_len 0 l.boat);
  bound : l.count ≤ l.boat;
}
