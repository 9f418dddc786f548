use Rattle.regatta_json.proofs.Texts.{four_parts}
use Rattle.regatta_words.specs.WordsText.{answers_text}
use Rattle.regatta_words.proofs.words.push_answers.Goals as goal

pub returns-clause-ok : goal.returns-clause-ok
unfolding answers_text
returns-clause-ok c = four_parts _ _ _ _ _ _ _ _ _ c.in_ok-push_pieces.ensures.ok
    c.in_ok-push_rows.ensures.ok c.in_ok-push_pieces-2.ensures.ok c.in_ok-push_rows-2.ensures.ok
