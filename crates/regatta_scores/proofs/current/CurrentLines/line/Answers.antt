use Rattle.std.proofs.Common.{◌∙◌, ap, arith, false, length, rules, true}
use Rattle.std.proofs.lemmas.List.{get_or_default}
use borrow.Author.Tests.{lt-ltb, le-ltb}
use Rattle.regatta_scores.specs.Entrants.{no_line}
use Rattle.regatta_scores.specs.Current.{no_new}
use Rattle.regatta_scores.specs.declared.current.NewLine.{NewLine}
use Rattle.regatta_scores.proofs.Currents.{looked_within, looked_by}
use Rattle.regatta_scores.proofs.current.CurrentLines.line.Goals as goal

pub index-requires : goal.index-requires
index-requires c =
    let l = c.self.inside in
    let within = looked_within l.new.now l.old.now l.positions.items _ c.args.boat c.self.invariant
    c.self.view_is c.requires in
    omega (arith, within, c.self.invariant, l.positions.ok.0)

pub bounds-old-boat : goal.bounds-old-boat
bounds-old-boat c =
    let l = c.self.inside in
    looked_within l.new.now l.old.now l.positions.items _ c.args.boat c.self.invariant
    c.self.view_is c.requires

pub offset_bounds-old-boat : goal.offset_bounds-old-boat
offset_bounds-old-boat c =
    let l = c.self.inside in
    let within = looked_within l.new.now l.old.now l.positions.items _ c.args.boat c.self.invariant
    c.self.view_is c.requires in
    search rules

pub returns-then-at-new : goal.returns-then-at-new
returns-then-at-new c =
    let l = c.self.inside in
    let at = c.index.result.now in
    rw c.from-at.ensures
    (ap (λ (new : NewLine). new.line)
    (get_or_default l.new.now at c.index-new-at.result no_new (omega (arith, c.from-at.ensures)))
    ∙ looked_by l.new.now l.old.now l.positions.items _ c.args.boat at c.self.invariant
    c.self.view_is c.requires c.index.ensures true
    (lt-ltb at (length l.new.now) (omega (arith, c.from-at.ensures))))

pub returns-else-at-new : goal.returns-else-at-new
returns-else-at-new c =
    let l = c.self.inside in
    let at = c.index.result.now in
    let within = looked_within l.new.now l.old.now l.positions.items _ c.args.boat c.self.invariant
    c.self.view_is c.requires in
    c.index-old-boat.is
    ∙ get_or_default l.old.now c.args.boat c.index-old-boat.result no_line within
    ∙ looked_by l.new.now l.old.now l.positions.items _ c.args.boat at c.self.invariant
    c.self.view_is c.requires c.index.ensures false
    (le-ltb at (length l.new.now) (omega (arith, c.from-at.ensures)))
