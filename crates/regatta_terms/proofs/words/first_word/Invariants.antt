use Rattle.std.proofs.Common.{◌≡◌, length}
use Rattle.regatta_terms.specs.Words.{words}
use Rattle.regatta_terms.proofs.words.first_word.Given as goal

-- only spaces were cut off
abbrev pub invariant-loop-after : goal.invariant-loop-after
invariant-loop-after l = words l.rest ≡ words l.fn.text

abbrev pub decreases-loop-after : goal.decreases-loop-after
decreases-loop-after l = length l.rest
