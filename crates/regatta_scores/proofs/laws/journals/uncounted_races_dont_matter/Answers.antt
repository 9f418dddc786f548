use Rattle.regatta_scores.proofs.JournalLaws.{uncounted_races_dont_matter}
use Rattle.regatta_scores.proofs.laws.journals.uncounted_races_dont_matter.Goals as goal

pub returns : goal.returns
returns c = uncounted_races_dont_matter
