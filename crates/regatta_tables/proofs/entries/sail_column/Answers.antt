use Rattle.std.proofs.Common.{◌∙◌, ap, sym, map}
use Rattle.regatta_tables.proofs.ListFacts.{heading_seen, other_seen, no_heading_seen}
use Rattle.regatta_tables.proofs.entries.sail_column.Goals as goal

pub returns-then-branch : goal.returns-then-branch
returns-then-branch c =
    heading_seen c.deref-field-items.result.now _ c.loop-column.column _ c.loop-column-test.true
    (ap (map (λ field. field.now)) c.deref-field-items.ensures.value ∙ c.in_ok-fields.ensures)
    c.loop-column.invariant (sym c.in_ok-is_sail_heading.ensures ∙ c.if-branch.true)

pub loop-column-preserved : goal.loop-column-preserved
loop-column-preserved c =
    other_seen c.deref-field-items.result.now _ c.loop-column.column _ c.loop-column-test.true
    (ap (map (λ field. field.now)) c.deref-field-items.ensures.value ∙ c.in_ok-fields.ensures)
    c.loop-column.invariant (sym c.in_ok-is_sail_heading.ensures ∙ c.if-branch.false)

pub returns : goal.returns
returns c =
    no_heading_seen c.deref-field-items.result.now _ c.loop-column.column c.loop-column-test.false
    (ap (map (λ field. field.now)) c.deref-field-items.ensures.value ∙ c.in_ok-fields.ensures)
    c.loop-column.invariant
