use Rattle.std.proofs.Common.{rules}
use Rattle.regatta_json.proofs.Texts.{five_parts}
use Rattle.regatta_explain.specs.Rows.{rules_text}
use Rattle.regatta_explain.proofs.series.push_rules.Goals as goal

pub returns : goal.returns
unfolding rules_text
returns c =
    record {
      ok = five_parts _ _ _ _ _ _ _ _ _ _ _ c.in_ok-push_absent.ensures.ok
          c.in_ok-push_amount.ensures.ok
          c.in_ok-push_named_thresholds.ensures.ok
          c.in_ok-push_flag.ensures.ok
          c.in_ok-push_pieces.ensures.ok;
      err = search rules;
      room = search rules;
      full = search rules;
    }
