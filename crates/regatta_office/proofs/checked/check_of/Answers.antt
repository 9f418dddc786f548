use Rattle.std.proofs.Common.{◌≡◌, ◌↔◌, Bool, true, false, rules, subst, sym}
use Rattle.std.specs.Option.{option_copied}
use Rattle.regatta_check.specs.Checks.{is_sound}
use Rattle.regatta_office.specs.CheckedStarts.{Accepts}
use Rattle.regatta_office.proofs.Checking.{journal_accepts, kept_accepts}
use Rattle.regatta_office.proofs.checked.check_of.Goals as goal

-- a kept file
pub returns-then-is_kept-clause-accepts : goal.returns-then-is_kept-clause-accepts
returns-then-is_kept-clause-accepts c =
    let list = option_copied c.args.list in
    let check = c.in_ok-check.check in
    let kept : c.args.is_kept ≡ true = search rules in
    subst (λ (is_kept : Bool). (is_sound check ≡ true)
    ↔ Accepts is_kept c.args.rules.now c.args.text.now list) (sym kept)
    (kept_accepts c.args.rules.now c.args.text.now list check c.in_ok-check.ensures.check
    c.in_ok-check.ensures.agrees c.in_ok-check.ensures.list)

-- a journal
pub returns-clause-accepts : goal.returns-clause-accepts
returns-clause-accepts c =
    let list = option_copied c.args.list in
    let check = c.in_ok-check-2.check in
    let kept : c.args.is_kept ≡ false = search rules in
    subst (λ (is_kept : Bool). (is_sound check ≡ true)
    ↔ Accepts is_kept c.args.rules.now c.args.text.now list) (sym kept)
    (journal_accepts c.args.rules.now c.args.text.now list check c.in_ok-check-2.ensures.check
    c.in_ok-check-2.ensures.agrees c.in_ok-check-2.ensures.list)
