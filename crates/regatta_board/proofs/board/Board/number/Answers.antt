use Rattle.std.proofs.Common.{◌≡◌, ap, refl, subst, sym, ◌∙◌, Option, Some, ℕ}
use Rattle.std.specs.List.{position}
use Rattle.std.specs.Option.{IsSome}
use Rattle.regatta_scores.specs.Journal.{entered, same_sail}
use Rattle.regatta_board.specs.Details.{boat_at}
use Rattle.regatta_board.specs.KeptJournal.{number}
use Rattle.regatta_board.specs.Table.{Kept}
use Rattle.regatta_board.proofs.Found.{found}
use Rattle.regatta_board.proofs.RaceDetails.{boat_is}
use Rattle.regatta_board.proofs.board.Board.number.Goals as goal

pub unwrap-requires : goal.unwrap-requires
unwrap-requires c =
    let boat = c.args.boat in
    let journal = c.args.self.now.entries in
    let is : ◌≡◌ {A = Option ℕ} c.number.result (Some (number journal boat)) =
    c.number.ensures
    ∙ ap (λ (kept : Kept). position (same_sail boat) kept.sails) c.kept.ensures.value
    ∙ found (same_sail boat) (entered journal) c.requires in
    subst (λ (o : Option ℕ). IsSome o) (sym is) refl

pub returns-clause-hers : goal.returns-clause-hers
returns-clause-hers c =
    let boat = c.args.boat in
    let journal = c.args.self.now.entries in
    let is : ◌≡◌ {A = Option ℕ} (Some c.unwrap.result) (Some (number journal boat)) =
    sym c.unwrap.ensures ∙ c.number.ensures
    ∙ ap (λ (kept : Kept). position (same_sail boat) kept.sails) c.kept.ensures.value
    ∙ found (same_sail boat) (entered journal) c.requires in
    let same : ◌≡◌ {A = ℕ} c.unwrap.result (number journal boat) = cc in
    ap (boat_at (entered journal)) (c.from.ensures ∙ same)
    ∙ boat_is (entered journal) boat c.requires
