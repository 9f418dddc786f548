use Rattle.std.proofs.Common.{◌∙◌, ap, Some}
use Rattle.regatta_board.proofs.boats.Boats.number.Goals as goal

pub returns : goal.returns
returns c = rw (← c.self.view_is) (ap Some (c.self.invariant _ _ _ c.in_ok-number.ensures.entry)
    ∙ c.in_ok-number.ensures.index)
