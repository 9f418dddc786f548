-- The preview of a text: what its lines would do to a journal.
use Rattle.std.specs.Prelude.{ℕ, List}
use Rattle.regatta_terms.specs.Rules.{RulesParts}
use Rattle.regatta_terms.specs.TextLines.{lines}
use Rattle.regatta_terms.specs.declared.command.Role.{Role}
use Rattle.regatta_scores.specs.Journal.{Journal}
use Rattle.regatta_preview.specs.declared.parts.Preview.{Preview}
use Rattle.regatta_preview.specs.Changes.{changes}
use Rattle.regatta_preview.specs.Documents.{document_text}
use Rattle.regatta_preview.specs.Moves.{moves}
use Rattle.regatta_preview.specs.Talks.{Talked, talked}

-- the replies to the lines of a text, of which the first is sent in this role, and the journal after
-- them
abbrev pub talked_from : RulesParts → Journal → Role → List ℕ → Talked
talked_from rules start role text =
    talked rules (record { role = role; journal = start }) (lines text)

-- the replies, and who moves and whose scores change from the standing of the start to that after
-- the last line
unfoldable pub preview : RulesParts → Journal → Role → List ℕ → Preview
preview rules start role text =
    let all = talked_from rules start role text in
    record {
      role = role;
      replies = all.replies;
      moves = moves rules start all.journal;
      changes = changes rules start all.journal;
    }

-- its text
abbrev pub previewed : RulesParts → Journal → Role → List ℕ → List ℕ
previewed rules start role text = document_text (preview rules start role text)
