use Rattle.std.proofs.Common.{◌≡◌, ◌≤◌, ◌++◌, length, take}
use Rattle.std.specs.List.{slice_split}
use Rattle.std.specs.Option.{option_map}
use Rattle.regatta_terms.specs.Rules.{numbers_of, is_comma}
use Rattle.regatta_terms.proofs.Cuts.{length_left}
use Rattle.regatta_terms.proofs.RuleFacts.{numbers_left}
use Rattle.regatta_rulings.proofs.arguments.read_numbers.Given as goal

-- the numbers so far, followed by those in the rest, have the first 41 numbers of the whole
abbrev pub invariant-loop-rest : goal.invariant-loop-rest
invariant-loop-rest l = record {
  in_range : l.count ≤ 41;
  slots : length l.numbers ≡ 41;
  found : option_map (λ ns. take 41 (take l.count l.numbers ++ ns)) (numbers_left l.rest)
      ≡ option_map (λ ns. take 41 ns) (numbers_of (slice_split is_comma l.fn.text));
}

abbrev pub decreases-loop-rest : goal.decreases-loop-rest
decreases-loop-rest l = length_left l.rest
