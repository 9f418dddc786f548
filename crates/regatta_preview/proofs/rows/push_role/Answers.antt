use Rattle.std.proofs.Common.{◌≡◌, rules}
use Rattle.regatta_terms.specs.CommandWords.{role_text}
use Rattle.regatta_json.proofs.Texts.{two_parts}
use Rattle.regatta_preview.specs.Rows.{role_row}
use Rattle.regatta_preview.proofs.rows.push_role.Goals as goal

pub returns : goal.returns
unfolding role_row
returns c =
    let word : c.as_bytes.result.now ≡ role_text c.args.role = cc in
    record {
      ok = two_parts _ _ _ _ _ (rw word at c.in_ok-push_word.ensures.ok) c.in_ok-push_text.ensures.ok;
      err = search rules;
      room = search rules;
      full = search rules;
    }
