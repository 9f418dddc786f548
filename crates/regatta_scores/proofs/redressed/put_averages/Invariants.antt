use Rattle.std.proofs.Common.{◌≡◌, drop, length}
use Rattle.regatta_scores.specs.Redressing.{averaged_at}
use Rattle.regatta_scores.proofs.redressed.put_averages.Given as goal

-- the points so far, and the races to come
abbrev pub invariant-loop-race : goal.invariant-loop-race
invariant-loop-race l = record {
  made : averaged_at l.over.number l.over.sum l.points (drop l.race-index l.races)
      ≡ averaged_at l.over.number l.over.sum l.initial.points l.races;
  long : length l.points ≡ length l.initial.points;
}
