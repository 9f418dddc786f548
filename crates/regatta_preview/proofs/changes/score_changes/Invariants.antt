use Rattle.std.proofs.Common.{◌≡◌, filter, map}
use Rattle.std.specs.List.{range_with_len}
use Rattle.regatta_preview.specs.Changes.{has_score, score_change}
use Rattle.regatta_preview.proofs.changes.score_changes.Given as goal

-- the scores so far
abbrev pub invariant-loop-i : goal.invariant-loop-i
invariant-loop-i l = l.scores.items ≡ filter has_score
    (map (score_change l.first.races l.was l.last.races l.cells) (range_with_len 1 l.i))
