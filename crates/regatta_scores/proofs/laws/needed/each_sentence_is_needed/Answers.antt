use Rattle.regatta_scores.proofs.Needed.{all_is_appendix_a}
use Rattle.regatta_scores.proofs.NeededExamples.{each_is_needed}
use Rattle.regatta_scores.proofs.laws.needed.each_sentence_is_needed.Goals as goal

pub returns-clause-all : goal.returns-clause-all
returns-clause-all c = all_is_appendix_a

pub returns-clause-needed : goal.returns-clause-needed
returns-clause-needed c = each_is_needed
