use Rattle.regatta_office.specs.Scribes.{point}
use Rattle.regatta_office.proofs.Gathering.{gathered-cut}
use Rattle.regatta_office.proofs.scribe.Scribe.take_some.Goals as goal

-- the write failed
pub returns-in-Err-clause-cut : goal.returns-in-Err-clause-cut
returns-in-Err-clause-cut g c = λ is.
    gathered-cut (g.W.Device.contents c.args.output.now) (g.W.Device.contents c.write_all.new.output)
    c.gather-gathered.new.self.due.items c.args.piece.now (point c.args.self.now)
    (point c.gather-gathered.new.self) c.gather-gathered.result c.gather-gathered.ensures.took
    c.gather-gathered.ensures.broke (rw c.deref.ensures.value at c.in-Err.ensures.cut)
