use Rattle.regatta_scores.proofs.CodeLaws.{late_entries_cost_codes}
use Rattle.regatta_scores.proofs.laws.codes.late_entries_cost_codes.Goals as goal

pub returns : goal.returns
returns c = late_entries_cost_codes
