use Rattle.regatta_scores.specs.Redressing.{IsRead}
use Rattle.regatta_scores.proofs.redressed.push_all.Given as goal

-- the races so far
abbrev pub invariant-loop-score : goal.invariant-loop-score
invariant-loop-score l =
    IsRead l.scores l.score-index l.points.items l.over_all.items l.so_far
