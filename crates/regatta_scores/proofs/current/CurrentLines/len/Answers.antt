use Rattle.std.proofs.Common.{◌∙◌, ap, length, sym}
use Rattle.regatta_scores.specs.Current.{Lines}
use Rattle.regatta_scores.proofs.Currents.{looked_long}
use Rattle.regatta_scores.proofs.current.CurrentLines.len.Goals as goal

pub returns : goal.returns
returns c =
    let l = c.self.inside in
    sym (looked_long l.new.now l.old.now l.positions.items c.self.invariant)
    ∙ ap (λ (v : Lines). length v.lines) c.self.view_is
