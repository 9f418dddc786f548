use Rattle.std.proofs.Common.{rules}
use Rattle.regatta_json.proofs.Texts.{four_parts}
use Rattle.regatta_explain.specs.Rows.{compared_text}
use Rattle.regatta_explain.proofs.ties.push_compared.Goals as goal

pub returns : goal.returns
unfolding compared_text
returns c =
    record {
      ok = four_parts _ _ _ _ _ _ _ _ _ c.in_ok-push_at.ensures.ok
          c.in_ok-push_tenths.ensures.ok
          c.in_ok-push_tenths-2.ensures.ok
          c.in_ok-push_pieces.ensures.ok;
      err = search rules;
      room = search rules;
      full = search rules;
    }
