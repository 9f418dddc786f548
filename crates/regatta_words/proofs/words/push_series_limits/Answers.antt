use Rattle.std.proofs.Common.{rules}
use Rattle.regatta_json.proofs.Texts.{three_parts}
use Rattle.regatta_words.specs.WordsText.{series_limits}
use Rattle.regatta_words.proofs.words.push_series_limits.Goals as goal

pub returns : goal.returns
unfolding series_limits
returns c = record {
  ok = three_parts _ _ _ _ _ _ _ c.in_ok-push_limit.ensures.ok
      c.in_ok-push_limit-2.ensures.ok c.in_ok-push_limit-3.ensures.ok;
  err = search rules;
  room = search rules;
  full = search rules;
}
