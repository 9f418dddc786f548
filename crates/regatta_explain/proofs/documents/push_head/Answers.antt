use Rattle.std.proofs.Common.{rules}
use Rattle.regatta_json.proofs.Texts.{three_parts}
use Rattle.regatta_explain.specs.Documents.{head_text}
use Rattle.regatta_explain.proofs.documents.push_head.Goals as goal

pub returns : goal.returns
unfolding head_text
returns c =
    record {
      ok = three_parts _ _ _ _ _ _ _ c.in_ok-push_pieces.ensures.ok
          c.in_ok-push_rules.ensures.ok
          c.in_ok-push_number.ensures.ok;
      err = search rules;
      room = search rules;
      full = search rules;
    }
