use Rattle.std.proofs.Common.{◌≡◌}
use Rattle.regatta_scores.specs.Sheet.{boats}
use Rattle.regatta_trials.proofs.sheets.sheet_after.Given as goal

-- no change adds a boat
abbrev pub invariant-loop-change : goal.invariant-loop-change
invariant-loop-change l = boats l.sheet ≡ l.count
