use Rattle.std.proofs.Common.{◌∙◌, ap, subst}
use Rattle.regatta_scores.specs.Journal.{Journal}
use Rattle.regatta_desk.specs.Offices.{AreSeated}
use Rattle.regatta_desk.proofs.Seats.{all_sees}
use Rattle.regatta_desk.proofs.office.Opened.split.Goals as goal

pub passes_of-requires-clause-watchers : goal.passes_of-requires-clause-watchers
passes_of-requires-clause-watchers g c =
    let i = c.self.invariant in
    let is = c.self.view_is in
    all_sees c.self.inside.watchers.items c.self.inside.publisher.published
    c.self.inside.board.entries g.N.OfficeName.rules g.N.OfficeName.history i.1 i.0.list
    (i.0.under ∙ ap (λ o. o.rules) is ∙ c.requires.rules)
    (i.0.noted ∙ ap (λ o. o.history) is ∙ c.requires.history)

pub returns-clause-passes : goal.returns-clause-passes
returns-clause-passes g c =
    subst (λ (w : Journal). AreSeated w c.in_ok-passes.passes.items)
    (ap (λ o. o.entries) c.self.view_is) c.in_ok-passes.ensures.passes
