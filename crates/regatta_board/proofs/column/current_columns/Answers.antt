use Rattle.std.proofs.Common.{◌-◌, ◌∙◌, ℕ, [], arith, get_or}
use Rattle.std.specs.Option.{option_copied}
use Rattle.regatta_board.specs.Scoring.{with_column}
use Rattle.regatta_board.proofs.Maps.{pushed_more, pushed_all}
use Rattle.regatta_board.proofs.column.current_columns.Goals as goal

pub loop-race-preserved : goal.loop-race-preserved
loop-race-preserved c = record {
  made = pushed_more
      (λ (race : ℕ). get_or (with_column c.args.old.now (option_copied c.args.new)) (race - 1) [])
      c.args.races.now c.loop-race.race-index c.race-item.result c.current.result
      c.loop-race.found.items c.push_reserved.new.self.items c.loop-race-test.true c.race-item.is
      c.current.ensures c.loop-race.invariant.made c.push_reserved.ensures.items;
  long = omega (arith, c.push_reserved.ensures.len, c.loop-race.invariant.long);
  room = c.push_reserved.ensures.capacity ∙ c.loop-race.invariant.room;
}

pub push_reserved-requires : goal.push_reserved-requires
push_reserved-requires c =
    omega (arith, c.loop-race.invariant.long, c.loop-race.invariant.room, c.loop-race-test.true)

pub returns : goal.returns
returns c =
    pushed_all (λ (race : ℕ). get_or (with_column c.args.old.now (option_copied c.args.new)) (race - 1) [])
    c.args.races.now c.loop-race.race-index c.loop-race.found.items c.loop-race-test.false
    c.loop-race.invariant.made
