use Rattle.std.proofs.Common.{rules}
use Rattle.regatta_json.proofs.Texts.{four_parts}
use Rattle.regatta_explain.specs.Documents.{boat_rows}
use Rattle.regatta_explain.proofs.documents.push_boat_rows.Goals as goal

pub returns : goal.returns
unfolding boat_rows
returns c =
    record {
      ok = four_parts _ _ _ _ _ _ _ _ _ c.in_ok-push_boat.ensures.ok
          c.in_ok-push_pieces.ensures.ok
          c.in_ok-push_scores.ensures.ok
          c.in_ok-push_pieces-2.ensures.ok;
      err = search rules;
      room = search rules;
      full = search rules;
    }
