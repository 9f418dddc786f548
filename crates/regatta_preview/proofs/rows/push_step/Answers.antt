use Rattle.std.proofs.Common.{◌≡◌, rules}
use Rattle.regatta_json.proofs.Texts.{three_parts}
use Rattle.regatta_preview.specs.Rows.{move_text}
use Rattle.regatta_preview.proofs.rows.push_step.Goals as goal

pub returns : goal.returns
unfolding move_text
returns c =
    let sail : c.as_bytes.result.now ≡ c.args.step.now.sail = c.as_bytes.ensures.text in
    record {
      ok = three_parts _ _ _ _ _ _ _ (rw sail at c.in_ok-push_word.ensures.ok)
          c.in_ok-push_place_if_any.ensures.ok c.in_ok-push_named_place.ensures.ok;
      err = search rules;
      room = search rules;
      full = search rules;
    }
