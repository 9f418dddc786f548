use Rattle.std.proofs.Common.{◌++◌, ◌∷◌, [], List, ℕ, take, get_or, ◌*◌, ◌+◌, ap, ◌∙◌, append_assoc}
use Rattle.regatta_tables.specs.declared.page.TheConstants.{PAIRS}
use Rattle.regatta_tables.proofs.DigitFacts.{pair_of}
use Rattle.regatta_tables.proofs.page.put_two.Goals as goal

pub returns-clause-text : goal.returns-clause-text
returns-clause-text c =
    let old = take c.args.at c.args.page.now in
    let first = get_or PAIRS (c.args.number * 2) 0 in
    let second = get_or PAIRS (c.args.number * 2 + 1) 0 in
    c.put.ensures.text ∙ ap (λ (t : List ℕ). t ++ second ∷ []) c.put-at.ensures.text
    ∙ append_assoc old (first ∷ []) (second ∷ [])
    ∙ ap (λ (t : List ℕ). old ++ t) (pair_of c.args.number c.requires.two)
