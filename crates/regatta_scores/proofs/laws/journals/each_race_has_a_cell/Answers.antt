use Rattle.regatta_scores.proofs.JournalLaws.{each_race_has_a_cell}
use Rattle.regatta_scores.proofs.laws.journals.each_race_has_a_cell.Goals as goal

pub returns : goal.returns
returns c = each_race_has_a_cell
