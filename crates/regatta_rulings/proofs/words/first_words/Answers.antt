use Rattle.regatta_rulings.proofs.WordFacts.{all_slots, all_words}
use Rattle.regatta_rulings.proofs.words.first_words.Goals as goal

pub returns-then-count-eq64-clause-words : goal.returns-then-count-eq64-clause-words
returns-then-count-eq64-clause-words c = all_slots _ _ _ _ c.loop-rest.invariant.slots
    c.if-count-eq64.true c.loop-rest.invariant.found

pub returns-in_default-clause-words : goal.returns-in_default-clause-words
returns-in_default-clause-words c = all_words _ _ _ c.loop-rest.invariant.slots
    c.loop-rest.invariant.in_range (rw c.in_default.is at c.loop-rest.invariant.found)
