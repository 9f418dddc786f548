use Rattle.regatta_json.proofs.Texts.{four_parts}
use Rattle.regatta_check.specs.Documents.{lines_text}
use Rattle.regatta_check.proofs.documents.push_lines.Goals as goal

pub returns-clause-ok : goal.returns-clause-ok
unfolding lines_text
returns-clause-ok c =
    four_parts _ _ _ _ _ _ _ _ _ c.in_ok-push_pieces.ensures.ok
    c.in_ok-push_faults.ensures.ok
    c.in_ok-push_pieces-2.ensures.ok
    c.in_ok-push_torn_value.ensures.ok
