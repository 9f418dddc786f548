use Rattle.std.proofs.Common.{All, arith}
use Rattle.std.proofs.Math.Path.{subst}
use Rattle.std.proofs.lemmas.List.{take_all}
use Rattle.std.proofs.lemmas.List.Elements.{All-more}
use Rattle.regatta_terms.specs.Entries.{IsEntry}
use Rattle.regatta_scores.proofs.laws.scores.entries_are_in_range.Goals as goal

pub loop-entry-preserved : goal.loop-entry-preserved
loop-entry-preserved c = record {
  entries = All-more IsEntry c.args.journal.now c.loop-entry.entry-index c.entry-item.result
      (omega arith) c.loop-entry.invariant.entries
      (subst IsEntry c.entry-item.is c.parts_are_in_range.ensures);
}

pub returns : goal.returns
returns c =
    subst (All IsEntry)
    (take_all c.loop-entry.entry-index c.args.journal.now c.loop-entry-test.false)
    c.loop-entry.invariant.entries
