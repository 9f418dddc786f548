use Rattle.std.proofs.Common.{◌≡◌, ◌≤◌, length, map, take}
use Rattle.std.specs.List.{concat}
use Rattle.regatta_rulings.proofs.words.join.Given as goal

-- the words so far are joined
abbrev pub invariant-loop-word : goal.invariant-loop-word
invariant-loop-word l = record {
  joined : l.out.items ≡ concat (map (λ word. word.now) (take l.word-index l.words));
  few : length l.out.items ≤ 160;
}
