use Rattle.std.proofs.Common.{rules}
use Rattle.regatta_json.proofs.Texts.{five_parts}
use Rattle.regatta_explain.specs.Documents.{document_text}
use Rattle.regatta_explain.proofs.documents.push_document.Goals as goal

pub returns : goal.returns
unfolding document_text
returns c =
    record {
      ok = five_parts _ _ _ _ _ _ _ _ _ _ _ c.in_ok-push_head.ensures.ok
          c.in_ok-push_races.ensures.ok
          c.in_ok-push_boats.ensures.ok
          c.in_ok-push_neighbours.ensures.ok
          c.in_ok-push_after.ensures.ok;
      err = search rules;
      room = search rules;
      full = search rules;
    }
