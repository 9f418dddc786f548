use Rattle.std.proofs.Common.{rules}
use Rattle.regatta_json.proofs.Texts.{two_parts}
use Rattle.regatta_preview.specs.Rows.{rank_row}
use Rattle.regatta_preview.proofs.rows.push_rank.Goals as goal

pub returns : goal.returns
unfolding rank_row
returns c =
    record {
      ok = two_parts _ _ _ _ _ c.in_ok-push_named_place.ensures.ok c.in_ok-push_text.ensures.ok;
      err = search rules;
      room = search rules;
      full = search rules;
    }
