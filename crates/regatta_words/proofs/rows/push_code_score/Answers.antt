use Rattle.std.proofs.Common.{rules}
use Rattle.regatta_words.specs.WordsText.{code_score}
use Rattle.regatta_words.proofs.rows.push_code_score.Goals as goal

pub returns : goal.returns
unfolding code_score
returns c = record {
  ok = rw (c.scores_as.ensures, c.flag.ensures, c.is_excludable.ensures) at c.push_pieces.ensures.ok;
  err = search rules;
  room = search rules;
  full = rw (c.scores_as.ensures, c.flag.ensures, c.is_excludable.ensures) at c.push_pieces.ensures.full;
}
