use Rattle.std.proofs.Common.{◌≡◌, ℕ, length, take, get_or, nat_eq, cond, Some, None}
use Rattle.regatta_scores.specs.Order.{in_group}
use Rattle.regatta_scores.proofs.points.give.Given as goal

-- the boats so far have the points, and the others have their old ones
abbrev pub invariant-loop-boat : goal.invariant-loop-boat
invariant-loop-boat l = record {
  one_each : length l.placed ≡ length l.initial.placed;
  given : (boat : ℕ) → get_or l.placed boat None
      ≡ cond (in_group nat_eq boat (take l.boat-index l.group)) (Some l.points)
      (get_or l.initial.placed boat None);
}
