use Rattle.regatta_scores.proofs.SameTables.{at_most_one_fits}
use Rattle.regatta_scores.proofs.laws.appendix.at_most_one_table_fits.Goals as goal

pub returns : goal.returns
returns c = at_most_one_fits
