use Rattle.std.proofs.Common.{rules}
use Rattle.regatta_json.proofs.Texts.{two_parts}
use Rattle.regatta_explain.specs.Documents.{neighbours_text}
use Rattle.regatta_explain.proofs.documents.push_neighbours.Goals as goal

pub returns : goal.returns
unfolding neighbours_text
returns c =
    record {
      ok = two_parts _ _ _ _ _ c.in_ok-push_pieces.ensures.ok
          c.in_ok-push_all_neighbours.ensures.ok;
      err = search rules;
      room = search rules;
      full = search rules;
    }
