use Rattle.std.proofs.Common.{◌≡◌, ◌-◌, ◌++◌, false, length, map, replicate, take}
use Rattle.regatta_scores.specs.RaceScores.{scores_in}
use Rattle.regatta_scores.specs.Redressing.{IsRead}
use Rattle.regatta_scores.proofs.line.push_scores.Given as goal

-- the races so far; no flag of the others is set
abbrev pub invariant-loop-column : goal.invariant-loop-column
invariant-loop-column l = record {
  read : IsRead (scores_in l.columns l.boat) l.column-index l.points.items l.over_all.items l.so_far;
  dnes : l.dnes.items ≡ map (λ score. score.dne) (scores_in (take l.column-index l.columns) l.boat)
      ++ replicate (length l.columns - l.column-index) false;
}
