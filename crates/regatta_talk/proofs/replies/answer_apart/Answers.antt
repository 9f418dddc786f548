use Rattle.std.proofs.Common.{◌∙◌}
use Rattle.regatta_talk.proofs.replies.answer_apart.Goals as goal

pub returns-clause-stays : goal.returns-clause-stays
returns-clause-stays c = λ fits. c.write_fitting.ensures.stays ∙ c.make_room.ensures.stays fits
