use Rattle.std.proofs.Common.{◌/◌, ◌%◌, ◌++◌, List, ℕ, take, decimal, arith, sym, ap, ◌∙◌}
use Rattle.std.proofs.Common.{append_assoc}
use Rattle.regatta_tables.proofs.DigitFacts.{four_digits}
use Rattle.regatta_tables.proofs.page.put_number.Goals as goal

pub returns-else-number-lt100-clause-text : goal.returns-else-number-lt100-clause-text
returns-else-number-lt100-clause-text c =
    let n = c.args.number in
    let old = take c.args.at c.args.page.now in
    let two = decimal (n % 100 / 10) ++ decimal (n % 100 % 10) in
    c.put_two.ensures.text ∙ ap (λ (t : List ℕ). t ++ two) c.put_short-at.ensures.text
    ∙ append_assoc old (decimal (n / 100)) two
    ∙ ap (λ (t : List ℕ). old ++ t)
    (sym (four_digits n (omega (arith, c.if-number-lt100.false)) c.requires.few))
