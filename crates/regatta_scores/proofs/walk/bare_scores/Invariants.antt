use Rattle.std.proofs.Common.{◌≡◌, ◌≤◌, ℕ, ◌+◌, length, take, get_or, sum_by, nat_eq, unwrap_or}
use Rattle.std.proofs.Common.{cond, All, Some, None}
use Rattle.regatta_scores.specs.Order.{stands_in}
use Rattle.regatta_scores.specs.RacePoints.{race_of, finishers, place_points}
use Rattle.regatta_scores.specs.PlacedPoints.{most_place_points}
use Rattle.regatta_scores.specs.Walk.{bare_with, points_by}
use Rattle.regatta_scores.proofs.walk.bare_scores.Given as goal

-- the boats of the groups so far have the scores of their places, and the others those of DNC
abbrev pub invariant-loop-i : goal.invariant-loop-i
invariant-loop-i l = record {
  one_each : length l.scores.items ≡ length l.held;
  next_place : l.place ≡ 1 + sum_by (finishers (race_of l.order l.held)) (take l.i l.order);
  bound : l.place ≤ 1 + sum_by length (take l.i l.order);
  given : (boat : ℕ) → get_or l.scores.items boat (bare_with (length l.held) None)
      ≡ bare_with (length l.held) (cond (stands_in nat_eq boat (take l.i l.order))
      (Some (place_points nat_eq (race_of l.order l.held) boat)) None);
  few : All (λ score. unwrap_or (points_by score) 0 ≤ most_place_points) l.scores.items;
}
