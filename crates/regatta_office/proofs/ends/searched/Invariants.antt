use Rattle.std.proofs.Common.{◌≡◌, ◌≤◌, ◌+◌, ◌-◌, length, drop}
use Rattle.std.specs.List.{position_or_len}
use Rattle.regatta_terms.specs.TextLines.{is_line_end}
use Rattle.regatta_office.proofs.ends.searched.Given as goal

-- none of the bytes so far is a line feed
abbrev pub invariant-loop-from : goal.invariant-loop-from
invariant-loop-from l = record {
  few : l.from ≤ length l.text;
  none : position_or_len is_line_end l.text
      ≡ l.from + position_or_len is_line_end (drop l.from l.text);
}

abbrev pub decreases-loop-from : goal.decreases-loop-from
decreases-loop-from l = length l.text - l.from
