use Rattle.std.proofs.Common.{◌/◌, ◌%◌, ◌+◌, ◌++◌, ◌∷◌, [], List, ℕ, arith, sym, ap, ◌∙◌}
use Rattle.std.proofs.Common.{append_assoc}
use Rattle.regatta_tables.proofs.DigitFacts.{number_of_two, number_of_three}
use Rattle.regatta_tables.proofs.replies.push_number.Goals as goal

pub returns-then-number-lt100-clause-items : goal.returns-then-number-lt100-clause-items
returns-then-number-lt100-clause-items c =
    let n = c.args.number in
    let old = c.args.out.now.items in
    let ones : List ℕ = (48 + n % 10) ∷ [] in
    c.push_reserved-then-number-lt100-2.ensures.items
    ∙ ap (λ (t : List ℕ). t ++ ones) c.push_reserved-then-number-lt100.ensures.items
    ∙ append_assoc old ((48 + n / 10 % 10) ∷ []) ones
    ∙ ap (λ (t : List ℕ). old ++ t) (sym (number_of_two n
    (omega (arith, c.if-number-lt10.false)) (omega (arith, c.if-number-lt100.true))))

pub returns-clause-items : goal.returns-clause-items
returns-clause-items c =
    let n = c.args.number in
    let old = c.args.out.now.items in
    let tens : List ℕ = (48 + n / 10 % 10) ∷ [] in
    let ones : List ℕ = (48 + n % 10) ∷ [] in
    c.push_reserved-4.ensures.items
    ∙ ap (λ (t : List ℕ). t ++ ones) (c.push_reserved-3.ensures.items
    ∙ ap (λ (t : List ℕ). t ++ tens) c.push_reserved-2.ensures.items
    ∙ append_assoc old ((48 + n / 100) ∷ []) tens)
    ∙ append_assoc old ((48 + n / 100) ∷ tens) ones
    ∙ ap (λ (t : List ℕ). old ++ t) (sym (number_of_three n
    (omega (arith, c.if-number-lt100.false)) (omega arith)))
