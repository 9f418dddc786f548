use Rattle.std.proofs.Common.{◌∙◌}
use Rattle.regatta_rulings.proofs.LineFacts.{kind_place_shown}
use Rattle.regatta_rulings.proofs.reading.kind_place.Goals as goal

pub returns-clause-value : goal.returns-clause-value
returns-clause-value c = c.first_kind.ensures.value ∙ kind_place_shown c.args.words.now
