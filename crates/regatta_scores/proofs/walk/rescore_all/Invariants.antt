use Rattle.std.proofs.Common.{◌≡◌, ◌<◌, ◌≤◌, ℕ, length, get_or}
use Rattle.regatta_scores.specs.RaceScores.{no_score}
use Rattle.regatta_scores.specs.Sheet.{nothing_held}
use Rattle.regatta_scores.specs.Walk.{rescored}
use Rattle.regatta_scores.proofs.walk.rescore_all.Given as goal

-- the boats so far have their scores, and the others their bare ones
abbrev pub invariant-loop-boat : goal.invariant-loop-boat
invariant-loop-boat l = record {
  one_each : length l.scores ≡ length l.initial.scores;
  many : l.entered ≡ length l.held;
  done : (boat : ℕ) → boat < l.boat → get_or l.scores boat no_score
      ≡ rescored l.rules (length l.held) l.dnf (get_or l.held boat nothing_held)
      (get_or l.initial.scores boat no_score);
  rest : (boat : ℕ) → l.boat ≤ boat
      → get_or l.scores boat no_score ≡ get_or l.initial.scores boat no_score;
}
