use Rattle.regatta_board.proofs.ledger.Ledger.command_act.Goals as goal

pub returns-in-Enter : goal.returns-in-Enter
returns-in-Enter c = rw c.in-Enter.is (c.enter.ensures c.args.role)

pub returns-in-Finish : goal.returns-in-Finish
returns-in-Finish c = rw c.in-Finish.is (c.finish.ensures c.args.role)

pub returns-in-Tie : goal.returns-in-Tie
returns-in-Tie c = rw c.in-Tie.is (c.tie.ensures c.args.role)

pub returns-in-Before : goal.returns-in-Before
returns-in-Before c = rw c.in-Before.is (c.before-in-Before.ensures c.args.role)

pub returns-in-Time : goal.returns-in-Time
returns-in-Time c = rw c.in-Time.is (c.time.ensures c.args.role)

pub returns-in-Strike : goal.returns-in-Strike
returns-in-Strike c = rw c.in-Strike.is (c.strike.ensures c.args.role)

pub returns-in-Mark : goal.returns-in-Mark
returns-in-Mark c = rw c.in-Mark.is (c.mark.ensures c.args.role)

pub returns-in-Penalise : goal.returns-in-Penalise
returns-in-Penalise c = rw c.in-Penalise.is (c.penalise.ensures c.args.role)

pub returns-in-Redress : goal.returns-in-Redress
returns-in-Redress c = rw c.in-Redress.is (c.redress.ensures c.args.role)

pub returns-in-Score : goal.returns-in-Score
returns-in-Score c = rw c.in-Score.is (c.score.ensures c.args.role)

pub returns-in-Unscore : goal.returns-in-Unscore
returns-in-Unscore c = rw c.in-Unscore.is (c.unscore.ensures c.args.role)
