use Rattle.regatta_scores.proofs.FitTables.{only_the_standing_fits}
use Rattle.regatta_scores.proofs.laws.appendix.only_the_standing_fits.Goals as goal

pub returns : goal.returns
returns c = only_the_standing_fits
