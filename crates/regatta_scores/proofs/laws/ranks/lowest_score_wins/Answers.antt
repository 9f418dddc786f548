use Rattle.regatta_scores.proofs.BeatingLaws.{lowest_score_wins, beating_is_ranking}
use Rattle.regatta_scores.proofs.laws.ranks.lowest_score_wins.Goals as goal

pub returns-clause-score : goal.returns-clause-score
returns-clause-score c = lowest_score_wins

pub returns-clause-beats : goal.returns-clause-beats
returns-clause-beats c = beating_is_ranking
