use Rattle.std.proofs.Common.{rules}
use Rattle.regatta_json.proofs.Texts.{three_parts}
use Rattle.regatta_preview.specs.Documents.{changes_text}
use Rattle.regatta_preview.proofs.documents.push_all_changes.Goals as goal

pub returns : goal.returns
unfolding changes_text
returns c =
    record {
      ok = three_parts _ _ _ _ _ _ _ c.in_ok-push_text.ensures.ok c.in_ok-push_changes.ensures.ok
          c.in_ok-push_text-2.ensures.ok;
      err = search rules;
      room = search rules;
      full = search rules;
    }
