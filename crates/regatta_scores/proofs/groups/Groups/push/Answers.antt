use Rattle.std.proofs.Common.{◌∙◌, ap, arith, ◌++◌, ◌∷◌, []}
use Rattle.regatta_scores.proofs.Cut.{pushed}
use Rattle.regatta_scores.proofs.groups.Groups.push.Goals as goal

pub invariant_of-self-2 : goal.invariant_of-self-2
invariant_of-self-2 c =
    (pushed c.self.inside.boats.items c.self.inside.ends.items c.extend_from_slice.new.self.items
    c.push_reserved.new.self.items c.args.group.now c.len.result c.self.invariant
    c.in_ok-extend_from_slice.ensures.items (omega (arith, c.len.ensures))
    (cc (c.push_reserved.ensures.items, c.reserve.ensures.items))).0

pub returns : goal.returns
returns c =
    (pushed c.self.inside.boats.items c.self.inside.ends.items c.extend_from_slice.new.self.items
    c.push_reserved.new.self.items c.args.group.now c.len.result c.self.invariant
    c.in_ok-extend_from_slice.ensures.items (omega (arith, c.len.ensures))
    (cc (c.push_reserved.ensures.items, c.reserve.ensures.items))).1
    ∙ ap (λ g. g ++ c.args.group.now ∷ []) c.self.view_is
