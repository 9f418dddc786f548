use Rattle.std.proofs.Common.{rules}
use Rattle.regatta_json.proofs.Texts.{two_parts}
use Rattle.regatta_explain.specs.Documents.{races_text}
use Rattle.regatta_explain.proofs.documents.push_races.Goals as goal

pub returns : goal.returns
unfolding races_text
returns c =
    record {
      ok = two_parts _ _ _ _ _ c.in_ok-push_pieces.ensures.ok
          c.in_ok-push_all_races.ensures.ok;
      err = search rules;
      room = search rules;
      full = search rules;
    }
