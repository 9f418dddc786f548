use Rattle.std.proofs.Common.{◌≡◌, length}
use Rattle.std.specs.Vec.Iter.{into_iter_items, into_iter_len}
use Rattle.regatta_scores.specs.Current.{with_changed, AreWithin}
use Rattle.regatta_board.proofs.scoring.update.put_changed.Given as goal

-- with the new lines to come, the lines so far are those after all of them
abbrev pub invariant-loop-changed : goal.invariant-loop-changed
invariant-loop-changed l = record {
  done : with_changed l.lines (into_iter_items l.changed-iterator)
      ≡ with_changed l.initial.lines (into_iter_items l.initial.changed-iterator);
  within : AreWithin (length l.lines) (into_iter_items l.changed-iterator);
  left : into_iter_len l.changed-iterator ≡ length (into_iter_items l.changed-iterator);
}
