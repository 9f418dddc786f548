use Rattle.regatta_scores.proofs.Cut.{stands_is}
use Rattle.regatta_scores.proofs.groups.Groups.contains.Goals as goal

pub returns : goal.returns
returns c =
    let stands = stands_is c.self.inside.boats.items c.args.boat c.self.inside.ends.items
    c.self.invariant in
    cc (c.contains.ensures.value, c.deref.ensures.value, stands, c.self.view_is)
