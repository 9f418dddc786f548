use Rattle.std.proofs.Common.{◌/◌, ◌%◌, ◌++◌, ◌∷◌, [], List, ℕ, take, decimal, ap, ◌∙◌}
use Rattle.std.proofs.Common.{append_assoc}
use Rattle.regatta_tables.proofs.DigitFacts.{digit_text}
use Rattle.regatta_tables.proofs.page.put_points.Goals as goal

pub returns-clause-text : goal.returns-clause-text
returns-clause-text c =
    let old = take c.args.at c.args.page.now in
    let whole = decimal (c.args.tenths / 10) in
    let last = decimal (c.args.tenths % 10) in
    c.put_digit.ensures.text
    ∙ ap (λ (t : List ℕ). t ++ last) (c.put-at.ensures.text
    ∙ ap (λ (t : List ℕ). t ++ 46 ∷ []) c.put_number-at.ensures.text)
    ∙ append_assoc (old ++ whole) (46 ∷ []) last
    ∙ append_assoc old whole (46 ∷ last)
    ∙ ap (λ (t : List ℕ). old ++ (whole ++ 46 ∷ t)) (digit_text c.args.tenths)
