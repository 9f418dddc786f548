use Rattle.std.proofs.Common.{◌≡◌, ℕ, [], ◌∷◌, ◌++◌, ap, cond, rules, sym, ◌∙◌}
use Rattle.std.proofs.lemmas.List.{append-nil}
use Rattle.regatta_explain.specs.Explained.{is_recorded}
use Rattle.regatta_explain.proofs.race_parts.push_recorded.Goals as goal

pub returns-in_ok-push : goal.returns-in_ok-push
returns-in_ok-push c =
    let test = is_recorded c.args.board.now.rules c.args.board.now.entries in
    let same : ◌≡◌ {A = ℕ} c.unwrap-race.result c.args.race = search rules in
    let yes = sym c.if-is_recorded.true ∙ c.is_recorded.ensures ∙ ap test same in
    c.in_ok-push.ensures.items ∙ (λ t. c.args.races.now.items ++ same t ∷ [])
    ∙ (λ t. c.args.races.now.items ++ cond (yes t) (c.args.race ∷ []) [])

pub returns-else-is_recorded : goal.returns-else-is_recorded
returns-else-is_recorded c =
    let test = is_recorded c.args.board.now.rules c.args.board.now.entries in
    let same : ◌≡◌ {A = ℕ} c.unwrap-race.result c.args.race = search rules in
    let none = sym c.if-is_recorded.false ∙ c.is_recorded.ensures ∙ ap test same in
    sym (append-nil c.args.races.now.items)
    ∙ (λ t. c.args.races.now.items ++ cond (none t) (c.args.race ∷ []) [])
