use Rattle.std.proofs.Common.{◌≡◌, map, take, length}
use Rattle.regatta_scores.specs.RaceScores.{item_score}
use Rattle.regatta_scores.proofs.redressed.item_scores.Given as goal

-- the races so far
abbrev pub invariant-loop-item : goal.invariant-loop-item
invariant-loop-item l = record {
  made : l.scores.items ≡ map item_score (take l.item-index l.row);
  long : length l.scores.items ≡ l.item-index;
}
