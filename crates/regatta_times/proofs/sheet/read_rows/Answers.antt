use Rattle.regatta_times.specs.Sheets.{boat_added}
use Rattle.regatta_times.proofs.SheetFacts.{row_added, row_fault, rows_end}
use Rattle.regatta_times.proofs.sheet.read_rows.Goals as goal

pub loop-number-preserved : goal.loop-number-preserved
loop-number-preserved c =
    row_added (boat_added c.args.ratings.now c.args.overnight c.args.columns) c.args.records.now
    c.loop-number.number c.index-records-number.result c.loop-number.boats.items
    c.add_boat.new.boats.items c.loop-number-test.true c.index-records-number.is
    c.loop-number.invariant c.in-Ok.ensures.added

pub returns-in-Err-clause-fault : goal.returns-in-Err-clause-fault
returns-in-Err-clause-fault c =
    row_fault (boat_added c.args.ratings.now c.args.overnight c.args.columns) c.args.records.now
    c.loop-number.number c.index-records-number.result c.loop-number.boats.items
    c.in-Err.fault c.loop-number-test.true c.index-records-number.is
    c.loop-number.invariant c.in-Err.ensures.fault

pub returns-clause-ok : goal.returns-clause-ok
returns-clause-ok c =
    rows_end (boat_added c.args.ratings.now c.args.overnight c.args.columns) c.args.records.now
    c.loop-number.number c.loop-number.boats.items c.loop-number-test.false
    c.loop-number.invariant
