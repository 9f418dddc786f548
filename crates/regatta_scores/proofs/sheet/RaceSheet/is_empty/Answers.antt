use Rattle.regatta_scores.proofs.NoEmpty.{nobody_stands}
use Rattle.regatta_scores.proofs.sheet.RaceSheet.is_empty.Goals as goal

pub returns-clause-nobody : goal.returns-clause-nobody
returns-clause-nobody c =
    let stands = nobody_stands c.self.inside.order c.self.invariant.sheet.no_empty in
    rw (← c.self.view_is) (
      λ told. stands.0 (c.is_empty.ensures.0 told),
      λ none. c.is_empty.ensures.1 (stands.1 none),
    )
