use Rattle.std.proofs.Common.{◌≡◌, rules}
use Rattle.regatta_terms.specs.CommandWords.{role_text}
use Rattle.regatta_json.proofs.Texts.{three_parts}
use Rattle.regatta_preview.specs.Documents.{replies_text}
use Rattle.regatta_preview.proofs.documents.push_role_and_replies.Goals as goal

pub returns : goal.returns
unfolding replies_text
returns c =
    let word : c.as_bytes.result.now ≡ role_text c.args.preview.now.role = cc in
    record {
      ok = three_parts _ _ _ _ _ _ _ (rw word at c.in_ok-push_word.ensures.ok)
          c.in_ok-push_text.ensures.ok c.in_ok-push_replies.ensures.ok;
      err = search rules;
      room = search rules;
      full = search rules;
    }
