use Rattle.std.proofs.Common.{All, take}
use Rattle.regatta_terms.specs.Entries.{IsEntry}
use Rattle.regatta_scores.proofs.laws.scores.entries_are_in_range.Given as goal

-- the entries so far
abbrev pub invariant-loop-entry : goal.invariant-loop-entry
invariant-loop-entry l = record {
  entries : All IsEntry (take l.entry-index l.journal);
}
