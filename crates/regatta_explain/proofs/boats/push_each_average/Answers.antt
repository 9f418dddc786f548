use Rattle.std.proofs.Common.{rules}
use Rattle.regatta_json.proofs.Texts.{four_parts}
use Rattle.regatta_explain.specs.Rows.{average_text}
use Rattle.regatta_explain.proofs.boats.push_each_average.Goals as goal

pub returns : goal.returns
unfolding average_text
returns c =
    record {
      ok = four_parts _ _ _ _ _ _ _ _ _ c.in_ok-push_redress.ensures.ok
          c.in_ok-push_pieces.ensures.ok
          c.in_ok-push_races.ensures.ok
          c.in_ok-push_points.ensures.ok;
      err = search rules;
      room = search rules;
      full = search rules;
    }
