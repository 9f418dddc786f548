use Rattle.std.proofs.Common.{rules}
use Rattle.regatta_json.proofs.Texts.{five_parts}
use Rattle.regatta_explain.specs.Rows.{group_text}
use Rattle.regatta_explain.proofs.races.push_group.Goals as goal

pub returns : goal.returns
unfolding group_text
returns c =
    record {
      ok = five_parts _ _ _ _ _ _ _ _ _ _ _ c.in_ok-push_count.ensures.ok
          c.in_ok-push_count-2.ensures.ok
          c.in_ok-push_pieces.ensures.ok
          c.in_ok-push_sails.ensures.ok
          c.in_ok-push_pieces-2.ensures.ok;
      err = search rules;
      room = search rules;
      full = search rules;
    }
