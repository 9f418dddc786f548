use Rattle.std.proofs.Common.{rules}
use Rattle.regatta_json.proofs.Texts.{four_parts}
use Rattle.regatta_preview.specs.Rows.{change_row}
use Rattle.regatta_preview.proofs.rows.push_change.Goals as goal

pub returns : goal.returns
unfolding change_row
returns c =
    record {
      ok = four_parts _ _ _ _ _ _ _ _ _ c.in_ok-push_step.ensures.ok c.in_ok-push_text.ensures.ok
          c.in_ok-push_scores.ensures.ok c.in_ok-push_text-2.ensures.ok;
      err = search rules;
      room = search rules;
      full = search rules;
    }
