use Rattle.std.proofs.Common.{◌≡◌, ℕ, length, take, get_or, nat_eq, cond}
use Rattle.regatta_scores.specs.declared.boats.RaceScore.{RaceScore}
use Rattle.regatta_scores.specs.Order.{in_group}
use Rattle.regatta_scores.proofs.walk.put.Given as goal

-- the boats so far have the score, and the others have their old ones
abbrev pub invariant-loop-boat : goal.invariant-loop-boat
invariant-loop-boat l = record {
  one_each : length l.scores ≡ length l.initial.scores;
  given : (boat : ℕ) (other : RaceScore) → get_or l.scores boat other
      ≡ cond (in_group nat_eq boat (take l.boat-index l.group)) l.score
      (get_or l.initial.scores boat other);
}
