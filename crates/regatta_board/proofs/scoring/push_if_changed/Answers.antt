use Rattle.std.proofs.Common.{Some, None, refl}
use Rattle.regatta_scores.specs.Lines.{line_by}
use Rattle.regatta_scores.specs.RaceScores.{scores_in}
use Rattle.regatta_board.proofs.scoring.push_if_changed.Goals as goal

pub returns-then-scores_as : goal.returns-then-scores_as
returns-then-scores_as c = record {
  line = None;
  stays = (λ _. c.if-scores_as.ensures.0 refl, λ _. refl);
  value = tt;
  made = refl;
}

pub returns : goal.returns
returns c = record {
  line = Some (line_by c.args.rules.now (scores_in c.args.columns.now c.args.boat));
  stays = (λ e. absurd (cc), λ alike. (let yes = c.if-scores_as.ensures.1 alike in absurd (cc)));
  value = refl;
  made = c.in_ok-push_line.ensures;
}
