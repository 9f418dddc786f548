use Rattle.std.proofs.Common.{ℕ, ◌<◌, ◌≤◌, ◌∙◌, ◌++◌, List, ap, arith, drop, get_or, length}
use Rattle.std.proofs.Common.{refl, subst, sym}
use Rattle.std.proofs.lemmas.List.{length-append, length-drop}
use Rattle.std.proofs.lemmas.Slice.{between_to_end}
use Rattle.regatta_scores.specs.Groups.{begin, moved_end}
use Rattle.regatta_scores.proofs.Cut.{begin_within, later_ends, followed, rest_of, within_ends}
use Rattle.regatta_scores.proofs.groups.Groups.followed_by.Goals as goal

pub begin-begin-requires : goal.begin-begin-requires
begin-begin-requires c =
    let g = c.order.inside in
    let within = within_ends g.boats.items g.ends.items _ c.args.from c.order.view_is c.requires in
    omega (arith, within, ap length c.deref.ensures.value)

pub slice_bounds-extend_from_slice-count : goal.slice_bounds-extend_from_slice-count
slice_bounds-extend_from_slice-count c =
    let g = c.order.inside in
    let within = within_ends g.boats.items g.ends.items _ c.args.from c.order.view_is c.requires in
    omega (
      arith,
      begin_within g.ends.items (length g.boats.items) c.args.from c.order.invariant within,
      c.begin-begin.ensures,
      ap (λ es. begin es c.args.from) c.deref.ensures.value,
      ap length c.deref-2.ensures.value,
    )

pub slice_bounds-push_ends-count : goal.slice_bounds-push_ends-count
slice_bounds-push_ends-count c =
    let g = c.order.inside in
    let within = within_ends g.boats.items g.ends.items _ c.args.from c.order.view_is c.requires in
    omega (arith, within, ap length c.deref-3.ensures.value)

pub push_ends-requires-clause-low : goal.push_ends-requires-clause-low
push_ends-requires-clause-low c =
    let g = c.order.inside in
    let from = c.args.from in
    let within = within_ends g.boats.items g.ends.items _ from c.order.view_is c.requires in
    let rest = rest_of c.deref-3.result.now g.ends.items from from refl c.deref-3.ensures.value in
    let first = c.begin-begin.ensures ∙ ap (λ es. begin es from) c.deref.ensures.value in
    subst (λ (es : List ℕ). (k d : ℕ) → k < length es → c.begin-begin.result ≤ get_or es k d)
    (sym rest) (subst (λ (b : ℕ). (k d : ℕ) → k < length (drop from g.ends.items)
    → b ≤ get_or (drop from g.ends.items) k d) (sym first)
    (λ k d h. (later_ends g.ends.items (length g.boats.items) from c.order.invariant within
    k d h).0))

pub push_ends-requires-clause-high : goal.push_ends-requires-clause-high
push_ends-requires-clause-high c =
    let g = c.order.inside in
    let from = c.args.from in
    let within = within_ends g.boats.items g.ends.items _ from c.order.view_is c.requires in
    let rest = rest_of c.deref-3.result.now g.ends.items from from refl c.deref-3.ensures.value in
    let b = c.begin-begin.result in
    let first = c.begin-begin.ensures ∙ ap (λ es. begin es from) c.deref.ensures.value in
    let inside = begin_within g.ends.items (length g.boats.items) from c.order.invariant within in
    let moved = between_to_end c.deref-2.result.now b (length c.deref-2.result.now) (omega arith) in
    subst (λ (es : List ℕ). (k d : ℕ) → k < length es
    → moved_end b c.len-ahead.result (get_or es k d) < 18446744073709551616) (sym rest)
    (λ k d h. (let both = later_ends g.ends.items (length g.boats.items) from c.order.invariant
    within k d h in
    omega (
      arith,
      both.0,
      both.1,
      first,
      inside,
      ap length c.in_ok-extend_from_slice.ensures.items,
      length-append c.self.inside.boats.items (drop b c.deref-2.result.now),
      ap length moved,
      length-drop b c.deref-2.result.now,
      ap length c.deref-2.ensures.value,
      c.len-ahead.ensures,
      c.extend_from_slice.new.self.small,
      c.extend_from_slice.new.self.ok,
    )))

pub invariant_of-result : goal.invariant_of-result
invariant_of-result c =
    let g = c.order.inside in
    let s = c.self.inside in
    (followed s.boats.items s.ends.items g.boats.items g.ends.items c.deref-2.result.now
    c.deref-3.result.now c.extend_from_slice.new.self.items c.push_ends.new.ends.items c.args.from
    c.begin-begin.result c.len-ahead.result c.self.invariant c.order.invariant
    (within_ends g.boats.items g.ends.items _ c.args.from c.order.view_is c.requires)
    (c.begin-begin.ensures ∙ ap (λ es. begin es c.args.from) c.deref.ensures.value)
    (c.len-ahead.ensures ∙ s.boats.ok.0) c.deref-2.ensures.value c.deref-3.ensures.value
    c.in_ok-extend_from_slice.ensures.items c.in_ok-push_ends.ensures).0

pub returns : goal.returns
returns c =
    let g = c.order.inside in
    let s = c.self.inside in
    (followed s.boats.items s.ends.items g.boats.items g.ends.items c.deref-2.result.now
    c.deref-3.result.now c.extend_from_slice.new.self.items c.push_ends.new.ends.items c.args.from
    c.begin-begin.result c.len-ahead.result c.self.invariant c.order.invariant
    (within_ends g.boats.items g.ends.items _ c.args.from c.order.view_is c.requires)
    (c.begin-begin.ensures ∙ ap (λ es. begin es c.args.from) c.deref.ensures.value)
    (c.len-ahead.ensures ∙ s.boats.ok.0) c.deref-2.ensures.value c.deref-3.ensures.value
    c.in_ok-extend_from_slice.ensures.items c.in_ok-push_ends.ensures).1
    ∙ (λ i. c.self.view_is i ++ drop c.args.from (c.order.view_is i))
