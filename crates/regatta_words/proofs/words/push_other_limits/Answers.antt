use Rattle.std.proofs.Common.{rules}
use Rattle.regatta_json.proofs.Texts.{five_parts}
use Rattle.regatta_words.specs.WordsText.{other_limits}
use Rattle.regatta_words.proofs.words.push_other_limits.Goals as goal

pub returns : goal.returns
unfolding other_limits
returns c = record {
  ok = five_parts _ _ _ _ _ _ _ _ _ _ _ c.in_ok-push_limit.ensures.ok
      c.in_ok-push_limit-2.ensures.ok c.in_ok-push_limit-3.ensures.ok c.in_ok-push_limit-4.ensures.ok
      c.in_ok-push_pieces.ensures.ok;
  err = search rules;
  room = search rules;
  full = search rules;
}
