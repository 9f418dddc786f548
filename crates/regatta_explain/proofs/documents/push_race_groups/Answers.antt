use Rattle.std.proofs.Common.{rules}
use Rattle.regatta_json.proofs.Texts.{four_parts}
use Rattle.regatta_explain.specs.Documents.{race_groups}
use Rattle.regatta_explain.proofs.documents.push_race_groups.Goals as goal

pub returns : goal.returns
unfolding race_groups
returns c =
    record {
      ok = four_parts _ _ _ _ _ _ _ _ _ c.in_ok-push_race.ensures.ok
          c.in_ok-push_pieces.ensures.ok
          c.in_ok-push_groups.ensures.ok
          c.in_ok-push_pieces-2.ensures.ok;
      err = search rules;
      room = search rules;
      full = search rules;
    }
