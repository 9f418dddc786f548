use Rattle.std.proofs.Common.{List, ℕ, ◌+◌, ◌∙◌, ap, arith, length, sym, take}
use Rattle.std.proofs.lemmas.List.{length-drop, take_rest}
use denote.Ref.{Bor}
use Rattle.regatta_terms.proofs.Cuts.{shown}
use Rattle.regatta_rulings.specs.DecisionLines.{decision_named, kind_place}
use Rattle.regatta_rulings.proofs.LineFacts.{in_parts}
use Rattle.regatta_rulings.proofs.reading.read_after_race.Goals as goal

pub returns : goal.returns
returns c =
    let words = c.args.words.now in
    let at = c.in-Some.at in
    let kind = c.in-Some-kind_of.kind in
    in_parts c.args.race at words _ kind _
    (ap (λ (ws : List (Bor (List ℕ))). kind_place (shown ws)) (sym (take_rest words 1))
    ∙ sym c.in-Some.ensures.value)
    (omega (
      arith,
      c.in-Some.ensures.within,
      ap length (take_rest words 1),
      length-drop 1 words,
    ))
    (sym c.in-Some-kind_of.ensures)
    (c.read_parts.ensures
    ∙ ap (λ (ws : List (Bor (List ℕ))). decision_named c.args.race kind
    (shown (take (at + 1) words)) (shown ws)) (take_rest words (at + 2)))
