use Rattle.regatta_rulings.proofs.LineFacts.{not_long, too_long}
use Rattle.regatta_rulings.proofs.reading.read_decision.Goals as goal

pub returns-then-count-gt60 : goal.returns-then-count-gt60
returns-then-count-gt60 c = too_long c.args.line.now c.without_note-text.result.now _ _
    c.without_note-text.ensures c.first_words-count.ensures.words
    c.first_words-count.ensures.slots c.first_words-count.ensures.most c.if-count-gt60.true

pub returns : goal.returns
returns c = not_long c.args.line.now c.without_note-text.result.now _ _ _
    c.without_note-text.ensures c.first_words-count.ensures.words
    c.first_words-count.ensures.slots c.if-count-gt60.false c.read_or_none.ensures
