use Rattle.std.proofs.Common.{rules}
use Rattle.regatta_json.proofs.Texts.{five_parts}
use Rattle.regatta_explain.specs.Rows.{base_text}
use Rattle.regatta_explain.proofs.boats.push_base.Goals as goal

pub returns : goal.returns
unfolding base_text
returns c =
    record {
      ok = five_parts _ _ _ _ _ _ _ _ _ _ _ c.in_ok-push_race_no.ensures.ok
          c.in_ok-push_status.ensures.ok
          c.in_ok-push_tenths.ensures.ok
          c.in_ok-push_number.ensures.ok
          c.in_ok-push_tenths-2.ensures.ok;
      err = search rules;
      room = search rules;
      full = search rules;
    }
