use Rattle.std.proofs.Common.{◌≡◌, ℕ, ◌<◌, [], false, get_or, nat_eq}
use Rattle.regatta_scores.specs.Order.{in_group}
use Rattle.regatta_scores.proofs.groups.Groups.group_with.Given as goal

-- no group so far has the boat
abbrev pub invariant-loop-at : goal.invariant-loop-at
invariant-loop-at l = (k : ℕ) → k < l.at → in_group nat_eq l.boat (get_or l.self k []) ≡ false
