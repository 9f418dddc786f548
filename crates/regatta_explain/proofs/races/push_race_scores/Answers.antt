use Rattle.std.proofs.Common.{rules}
use Rattle.regatta_json.proofs.Texts.{three_parts}
use Rattle.regatta_explain.specs.Rows.{race_scores_text}
use Rattle.regatta_explain.proofs.races.push_race_scores.Goals as goal

pub returns : goal.returns
unfolding race_scores_text
returns c =
    record {
      ok = three_parts _ _ _ _ _ _ _ c.in_ok-push_count.ensures.ok
          c.in_ok-push_count-2.ensures.ok
          c.in_ok-push_count-3.ensures.ok;
      err = search rules;
      room = search rules;
      full = search rules;
    }
