use Rattle.std.proofs.Common.{◌≡◌, nat_eq, map, length, vec_len, vec_capacity}
use Rattle.std.specs.List.{range_with_len}
use Rattle.regatta_scores.specs.Details.{scoring}
use Rattle.regatta_scores.specs.RacePoints.{race_of}
use Rattle.regatta_scores.proofs.details.each_scoring.Given as goal

-- the scores of the boats so far, and room for the others
abbrev pub invariant-loop-boat : goal.invariant-loop-boat
invariant-loop-boat l = record {
  made : l.all.items ≡ map (scoring nat_eq l.rules (race_of l.fn.sheet.order l.fn.sheet.held))
      (range_with_len 0 l.boat);
  long : vec_len l.all ≡ l.boat;
  room : vec_capacity l.all ≡ length l.held;
}
