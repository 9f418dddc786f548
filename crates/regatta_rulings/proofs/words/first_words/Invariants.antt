use Rattle.std.proofs.Common.{◌≡◌, ◌≤◌, ◌++◌, length, map, take}
use Rattle.regatta_terms.proofs.Cuts.{length_left}
use Rattle.regatta_rulings.specs.DecisionWords.{words_of}
use Rattle.regatta_rulings.proofs.WordFacts.{words_left}
use Rattle.regatta_rulings.proofs.words.first_words.Given as goal

-- the words so far, followed by those of the rest, are the words of the text
abbrev pub invariant-loop-rest : goal.invariant-loop-rest
invariant-loop-rest l = record {
  in_range : l.count ≤ 64;
  slots : length l.slots ≡ 64;
  found : map (λ word. word.now) (take l.count l.slots) ++ words_left l.rest ≡ words_of l.fn.text;
}

abbrev pub decreases-loop-rest : goal.decreases-loop-rest
decreases-loop-rest l = length_left l.rest
