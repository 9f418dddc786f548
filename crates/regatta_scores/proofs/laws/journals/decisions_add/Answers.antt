use Rattle.regatta_scores.proofs.JournalLaws.{decisions_add}
use Rattle.regatta_scores.proofs.laws.journals.decisions_add.Goals as goal

pub returns : goal.returns
returns c = decisions_add
