use Rattle.regatta_json.proofs.Texts.{four_parts}
use Rattle.regatta_check.specs.Documents.{document_text}
use Rattle.regatta_check.proofs.documents.push_document.Goals as goal

pub returns-clause-ok : goal.returns-clause-ok
unfolding document_text
returns-clause-ok c =
    four_parts _ _ _ _ _ _ _ _ _ c.in_ok-push_lines.ensures.ok
    c.in_ok-push_pieces.ensures.ok
    c.in_ok-push_row_faults.ensures.ok
    c.in_ok-push_pieces-2.ensures.ok
