use Rattle.std.proofs.Common.{ℕ, List, Option, IfSome, subst, sym}
use Rattle.std.specs.Option.{option_copied}
use denote.Ref.{Bor}
use Rattle.regatta_check.specs.ListAgreement.{AgreesOnList}
use Rattle.regatta_check.proofs.AgreedOnList.{agrees_on_list}
use Rattle.regatta_check.proofs.entry_rows.take_list.Goals as goal

pub returns-in_ok-faults-in-Some-clause-agrees : goal.returns-in_ok-faults-in-Some-clause-agrees
returns-in_ok-faults-in-Some-clause-agrees c =
    let series = c.args.ledger.now.rules in
    let journal = c.args.ledger.now.entries in
    let faults = c.in_ok-faults-in-Some.faults.items in
    let here = subst (AgreesOnList series c.args.goes_on journal c.in-Some.text.now)
    (sym c.in_ok-faults-in-Some.ensures)
    (agrees_on_list series c.args.goes_on journal c.in-Some.text.now c.entries.ensures.lawful) in
    subst (λ (list : Option (Bor (List ℕ))). IfSome (option_copied list)
    (λ text. AgreesOnList series c.args.goes_on journal text faults)) (sym c.in-Some.is) here
