use Rattle.std.proofs.Common.{rules}
use Rattle.regatta_json.proofs.Texts.{three_parts}
use Rattle.regatta_explain.specs.Rows.{redress_text}
use Rattle.regatta_explain.proofs.races.push_redress_and_time.Goals as goal

pub returns : goal.returns
unfolding redress_text
returns c =
    record {
      ok = three_parts _ _ _ _ _ _ _ c.in_ok-push_redress.ensures.ok
          c.in_ok-push_seconds.ensures.ok
          c.in_ok-push_pieces.ensures.ok;
      err = search rules;
      room = search rules;
      full = search rules;
    }
