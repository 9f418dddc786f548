use Rattle.std.proofs.Common.{◌∙◌}
use Rattle.regatta_scores.specs.Journal.{entered}
use Rattle.regatta_scores.specs.RacePoints.{journal_race}
use Rattle.regatta_rulings.proofs.PointFacts.{plain_is}
use Rattle.regatta_rulings.proofs.points.plain_of.Goals as goal

pub returns : goal.returns
returns c = plain_is c.args.board.now.rules
    (journal_race c.args.board.now.rules c.args.board.now.entries c.args.race)
    (entered c.args.board.now.entries) c.number-number.result c.args.sail
    c.as_slice.result.now c.index-as_slice-number.result
    (c.as_slice.ensures ∙ c.in_ok-scorings.ensures) c.number-number.ensures.within
    c.number-number.ensures.hers c.index-as_slice-number.is
