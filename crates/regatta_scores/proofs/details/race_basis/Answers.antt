use Rattle.std.proofs.Common.{ap, ◌∙◌, sym}
use Rattle.regatta_scores.specs.Details.{twenty_percent_of}
use Rattle.regatta_scores.proofs.Placed.{basis_at}
use Rattle.regatta_scores.proofs.details.race_basis.Goals as goal

pub returns : goal.returns
returns c =
    basis_at c.args.sheet.now _ c.in_ok-placed.placed.items c.all_held-held.ensures
    (rw c.order.ensures.value at c.in_ok-placed.ensures) c.args.rules.now _ _ _ _
    (c.small.ensures ∙ c.entered.ensures)
    (c.small-2.ensures ∙ (rw c.deref-2.ensures.value at c.number_came.ensures.value))
    (c.small-3.ensures ∙ (rw c.deref.ensures.value at c.dnf-dnf.ensures.value))
    (c.small-4.ensures ∙ c.twenty_percent.ensures.value
    ∙ ap twenty_percent_of (sym c.small-3.ensures))
