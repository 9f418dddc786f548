use Rattle.std.proofs.Common.{◌≡◌, length}
use Rattle.regatta_terms.specs.TextLines.{lines}
use Rattle.regatta_preview.specs.Boards.{talk_of}
use Rattle.regatta_preview.specs.Talks.{preceded_by, talked}
use Rattle.regatta_preview.proofs.talks.take_lines.Given as goal

-- the replies so far, and what comes of the lines that are left
abbrev pub invariant-loop-rest : goal.invariant-loop-rest
invariant-loop-rest l = record {
  rules : l.board.rules ≡ l.fn.board.rules;
  all : talked l.fn.board.rules (talk_of l.fn.board l.fn.role) (lines l.fn.text)
      ≡ preceded_by l.replies.items (talked l.fn.board.rules (talk_of l.board l.role) (lines l.rest));
}

abbrev pub decreases-loop-rest : goal.decreases-loop-rest
decreases-loop-rest l = length l.rest
