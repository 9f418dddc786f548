use Rattle.std.proofs.Common.{◌≡◌, ◌≤◌, ◌-◌, length, replicate, None}
use Rattle.regatta_board.proofs.sheets.unchanged.Given as goal
use Rattle.regatta_terms.specs.declared.limits.TheConstants.{MAX_RACES}

-- no race so far has a sheet of its own
abbrev pub invariant-loop-changed : goal.invariant-loop-changed
invariant-loop-changed l =
    (length l.changed.items ≤ MAX_RACES)
    × (l.changed.items ≡ replicate (length l.changed.items) None)

abbrev pub decreases-loop-changed : goal.decreases-loop-changed
decreases-loop-changed l = MAX_RACES - length l.changed.items
