use Rattle.std.proofs.Common.{Some}
use Rattle.regatta_times.specs.Ratings.{rating_added}
use Rattle.regatta_times.proofs.SheetFacts.{row_added, row_fault, rows_end}
use Rattle.regatta_times.proofs.ratings.read_rows.Goals as goal

pub loop-number-preserved : goal.loop-number-preserved
loop-number-preserved c =
    row_added (rating_added c.args.system c.args.sails (Some c.args.ratings)) c.args.records.now
    c.loop-number.number c.index-records-number.result c.loop-number.found.items
    c.add_rating.new.found.items c.loop-number-test.true c.index-records-number.is
    c.loop-number.invariant c.in-Ok.ensures.added

pub returns-in-Err-clause-fault : goal.returns-in-Err-clause-fault
returns-in-Err-clause-fault c =
    row_fault (rating_added c.args.system c.args.sails (Some c.args.ratings)) c.args.records.now
    c.loop-number.number c.index-records-number.result c.loop-number.found.items
    c.in-Err.fault c.loop-number-test.true c.index-records-number.is
    c.loop-number.invariant c.in-Err.ensures.fault

pub returns-clause-ok : goal.returns-clause-ok
returns-clause-ok c =
    rows_end (rating_added c.args.system c.args.sails (Some c.args.ratings)) c.args.records.now
    c.loop-number.number c.loop-number.found.items c.loop-number-test.false
    c.loop-number.invariant
