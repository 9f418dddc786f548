use Rattle.std.proofs.Common.{◌-◌, ℕ, [], arith, get_or}
use Rattle.regatta_board.proofs.Maps.{pushed_more, pushed_all}
use Rattle.regatta_board.proofs.column.push_columns.Goals as goal

pub loop-race-preserved : goal.loop-race-preserved
loop-race-preserved c = record {
  made = pushed_more
      (λ (race : ℕ). get_or c.args.columns.now (race - 1) [])
      c.args.races.now c.loop-race.race-index c.race-item.result c.current.result
      c.loop-race.found.items c.push.new.self.items c.loop-race-test.true c.race-item.is
      c.current.ensures c.loop-race.invariant.made c.push.ensures.items;
  long = omega (arith, c.push.ensures.len, c.loop-race.invariant.long);
}

pub returns : goal.returns
returns c =
    pushed_all (λ (race : ℕ). get_or c.args.columns.now (race - 1) [])
    c.args.races.now c.loop-race.race-index c.loop-race.found.items c.loop-race-test.false
    c.loop-race.invariant.made
