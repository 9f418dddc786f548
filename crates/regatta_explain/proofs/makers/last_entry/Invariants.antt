use Rattle.std.proofs.Common.{◌≡◌, ◌-◌, take}
use Rattle.std.specs.Prelude.{not}
use Rattle.std.specs.List.{suffix_len}
use Rattle.regatta_terms.specs.Effects.{effect}
use Rattle.regatta_explain.specs.Depends.{matters}
use Rattle.regatta_explain.proofs.makers.last_entry.Given as goal

-- the place of the last so far
abbrev pub invariant-loop-i : goal.invariant-loop-i
invariant-loop-i l =
    l.last ≡ l.i - suffix_len (λ entry. not (matters l.races (effect entry.command)))
    (take l.i l.entries)
