use Rattle.std.proofs.Common.{rules}
use Rattle.regatta_json.proofs.Texts.{four_parts}
use Rattle.regatta_explain.specs.Documents.{after_row}
use Rattle.regatta_explain.proofs.documents.push_after_row.Goals as goal

pub returns : goal.returns
unfolding after_row
returns c =
    record {
      ok = four_parts _ _ _ _ _ _ _ _ _ c.in_ok-push_race_no.ensures.ok
          c.in_ok-push_pieces.ensures.ok
          c.in_ok-push_ranks.ensures.ok
          c.in_ok-push_pieces-2.ensures.ok;
      err = search rules;
      room = search rules;
      full = search rules;
    }
