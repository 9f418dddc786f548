use Rattle.std.proofs.Common.{◌∙◌, arith, sym}
use Rattle.std.proofs.lemmas.List.{take_all}
use Rattle.regatta_scores.specs.RaceScores.{scores_in}
use Rattle.regatta_scores.specs.Lines.{cells}
use Rattle.regatta_scores.proofs.Zipped.{cell_more, long_cells, long_in, score_at}
use Rattle.regatta_scores.proofs.row.cells.Goals as goal

pub loop-i-preserved : goal.loop-i-preserved
loop-i-preserved c =
    let columns = c.args.columns.now in
    let many = long_in columns c.args.boat in
    let hers = c.score.ensures
    ∙ score_at columns c.args.boat c.loop-i.i c.index-columns-i.result c.score.result.now
    c.loop-i-test.true c.index-columns-i.is in
    record {
      made = cell_more (scores_in columns c.args.boat) c.args.points.now c.args.flags.now c.loop-i.i
          c.score.result.now c.index-points-i.result c.cell.result c.loop-i.found.items
          c.push_reserved.new.self.items (omega (arith, many, c.loop-i-test.true))
          (c.requires.points ∙ sym many) (c.requires.flags ∙ sym many)
          hers c.index-points-i.is c.cell.ensures c.loop-i.invariant.made
          c.push_reserved.ensures.items;
      long = omega (arith, c.push_reserved.ensures.len, c.loop-i.invariant.long);
      room = c.push_reserved.ensures.capacity ∙ c.loop-i.invariant.room;
    }

pub push_reserved-requires : goal.push_reserved-requires
push_reserved-requires c =
    omega (arith, c.loop-i.invariant.long, c.loop-i.invariant.room, c.loop-i-test.true)

pub returns : goal.returns
returns c =
    let ss = scores_in c.args.columns.now c.args.boat in
    let many = long_in c.args.columns.now c.args.boat in
    let long = long_cells ss c.args.points.now c.args.flags.now (c.requires.points ∙ sym many)
    (c.requires.flags ∙ sym many) in
    c.loop-i.invariant.made
    ∙ take_all c.loop-i.i (cells ss c.args.points.now c.args.flags.now)
    (omega (arith, long, many, c.loop-i-test.false))
