use Rattle.std.proofs.Common.{◌≡◌, false, take}
use Rattle.std.specs.List.{list_any}
use Rattle.regatta_scores.specs.Journal.{entered}
use Rattle.regatta_explain.specs.Made.{has_something_by}
use Rattle.regatta_explain.proofs.race_parts.is_something_held.Given as goal

-- no boat so far has anything
abbrev pub invariant-loop-number : goal.invariant-loop-number
invariant-loop-number l =
    list_any (has_something_by l.board.entries l.race) (take l.number (entered l.board.entries))
    ≡ false
