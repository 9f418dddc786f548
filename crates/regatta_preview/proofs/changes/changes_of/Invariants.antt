use Rattle.std.proofs.Common.{◌≡◌, filter, map, take}
use Rattle.regatta_preview.specs.Changes.{change_since, has_changed}
use Rattle.regatta_preview.proofs.changes.changes_of.Given as goal

-- the boats so far
abbrev pub invariant-loop-row : goal.invariant-loop-row
invariant-loop-row l =
    l.changes.items ≡ filter has_changed (map (change_since l.first l.last) (take l.row-index l.rows))
