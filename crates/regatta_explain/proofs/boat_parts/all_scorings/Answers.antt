use Rattle.regatta_board.proofs.Maps.{pushed_more}
use Rattle.regatta_explain.specs.Made.{scorings_of}
use Rattle.regatta_explain.proofs.boat_parts.all_scorings.Goals as goal

pub loop-race-preserved : goal.loop-race-preserved
unfolding scorings_of
loop-race-preserved c =
    pushed_more (scorings_of c.args.board.now.rules c.args.board.now.entries) c.args.races.now
    c.loop-race.race-index c.race-item.result c.in_ok-scorings.field-0 c.loop-race.all.items _
    c.loop-race-test.true c.race-item.is c.in_ok-scorings.ensures c.loop-race.invariant
    c.in_ok-push.ensures.items
