use Rattle.std.proofs.Common.{◌∙◌, ap, arith, length, rules, sym, take}
use Rattle.std.proofs.lemmas.List.{length-take-le}
use Rattle.regatta_scores.specs.Groups.{begin}
use Rattle.regatta_scores.proofs.Cut.{begin_within, first_groups, within_ends}
use Rattle.regatta_scores.proofs.groups.Groups.first.Goals as goal

pub begin-requires : goal.begin-requires
begin-requires c =
    let g = c.self.inside in
    let within = within_ends g.boats.items g.ends.items _ c.args.many c.self.view_is c.requires in
    omega (arith, within, ap length c.deref-2.ensures.value)

pub slice_bounds-extend_from_slice-end : goal.slice_bounds-extend_from_slice-end
slice_bounds-extend_from_slice-end c =
    let g = c.self.inside in
    let within = within_ends g.boats.items g.ends.items _ c.args.many c.self.view_is c.requires in
    sym (length-take-le _ _ (omega (
      arith,
      begin_within g.ends.items (length g.boats.items) c.args.many c.self.invariant within,
      c.begin.ensures,
      ap (λ es. begin es c.args.many) c.deref-2.ensures.value,
      ap length c.deref.ensures.value,
    )))

pub slice_bounds-extend_from_slice-end-2 : goal.slice_bounds-extend_from_slice-end-2
slice_bounds-extend_from_slice-end-2 c =
    let g = c.self.inside in
    let within = within_ends g.boats.items g.ends.items _ c.args.many c.self.view_is c.requires in
    sym (length-take-le _ _ (omega (arith, within, ap length c.deref-3.ensures.value)))

pub invariant_of-result : goal.invariant_of-result
invariant_of-result c =
    let g = c.self.inside in
    (first_groups g.boats.items g.ends.items c.extend_from_slice.new.self.items
    c.extend_from_slice-2.new.self.items c.args.many c.self.invariant
    (within_ends g.boats.items g.ends.items _ c.args.many c.self.view_is c.requires)
    (search rules) (search rules)).0

pub returns : goal.returns
returns c =
    let g = c.self.inside in
    (first_groups g.boats.items g.ends.items c.extend_from_slice.new.self.items
    c.extend_from_slice-2.new.self.items c.args.many c.self.invariant
    (within_ends g.boats.items g.ends.items _ c.args.many c.self.view_is c.requires)
    (search rules) (search rules)).1 ∙ ap (take c.args.many) c.self.view_is
