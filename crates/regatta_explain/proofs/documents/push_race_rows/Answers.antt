use Rattle.std.proofs.Common.{rules}
use Rattle.regatta_json.proofs.Texts.{two_parts}
use Rattle.regatta_explain.specs.Documents.{race_rows}
use Rattle.regatta_explain.proofs.documents.push_race_rows.Goals as goal

pub returns : goal.returns
unfolding race_rows
returns c =
    record {
      ok = two_parts _ _ _ _ _ c.in_ok-push_race_groups.ensures.ok
          c.in_ok-push_race_boats.ensures.ok;
      err = search rules;
      room = search rules;
      full = search rules;
    }
