use Rattle.std.proofs.Common.{◌≡◌, map, take}
use Rattle.regatta_scores.specs.Journal.{entered}
use Rattle.regatta_explain.specs.Explained.{held_part}
use Rattle.regatta_explain.proofs.race_parts.held_parts.Given as goal

-- the boats so far
abbrev pub invariant-loop-number : goal.invariant-loop-number
invariant-loop-number l =
    l.parts.items ≡ map (held_part l.board.rules l.board.entries l.race)
    (take l.number (entered l.board.entries))
