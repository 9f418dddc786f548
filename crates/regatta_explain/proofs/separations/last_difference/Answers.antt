use Rattle.std.proofs.Common.{rules, ◌≡◌, ◌<◌, ℕ, ◌+◌, ◌-◌, length, Option, Some, None, sym, ap, arith, ◌∙◌}
use Rattle.regatta_explain.specs.declared.parts.Compared.{Compared}
use Rattle.regatta_explain.specs.Separations.{unlike}
use Rattle.regatta_explain.proofs.Unlike.{back_from, back_in_all, back_on, first_of_two}
use Rattle.regatta_explain.proofs.separations.last_difference.Goals as goal

pub loop-back-init : goal.loop-back-init
loop-back-init c =
    back_in_all c.args.races.now c.args.first.now c.args.second.now (length c.args.races.now - 0)
    (omega arith)

pub returns-in-Some : goal.returns-in-Some
returns-in-Some c =
    let races = c.args.races.now in
    let first = c.args.first.now in
    let second = c.args.second.now in
    let at = length races - 1 - c.loop-back.back in
    let here : length races - c.loop-back.back ≡ at + 1 = omega (arith, c.loop-back-test.true) in
    let within : at < length races = omega (arith, c.loop-back-test.true) in
    let found : Some c.in-Some.found
    ≡ unlike c.index-races-at.result c.index-first-at.result c.index-second-at.result =
    c.in-Some.ensures
    ∙ ap (λ (n : ℕ). unlike n c.index-first-at.result c.index-second-at.result) c.get.ensures.value in
    sym (c.loop-back.invariant ∙ ap (back_from races first second) here
    ∙ back_on races first second at c.index-races-at.result c.index-first-at.result
    c.index-second-at.result within c.requires.first_long c.requires.second_long
    c.index-races-at.is c.index-first-at.is c.index-second-at.is
    ∙ ap (λ (o : Option Compared). first_of_two o (back_from races first second at)) (sym found))

pub loop-back-preserved : goal.loop-back-preserved
loop-back-preserved c =
    let races = c.args.races.now in
    let first = c.args.first.now in
    let second = c.args.second.now in
    let at = length races - 1 - c.loop-back.back in
    let here : length races - c.loop-back.back ≡ at + 1 = omega (arith, c.loop-back-test.true) in
    let next : at ≡ length races - (c.loop-back.back + 1) = omega arith in
    let within : at < length races = omega (arith, c.loop-back-test.true) in
    let missed : c.unlike.result ≡ None = search rules in
    let none : unlike c.index-races-at.result c.index-first-at.result c.index-second-at.result
    ≡ None =
    ap (λ (n : ℕ). unlike n c.index-first-at.result c.index-second-at.result)
    (sym c.get.ensures.value) ∙ sym c.unlike.ensures ∙ missed in
    c.loop-back.invariant ∙ ap (back_from races first second) here
    ∙ back_on races first second at c.index-races-at.result c.index-first-at.result
    c.index-second-at.result within c.requires.first_long c.requires.second_long
    c.index-races-at.is c.index-first-at.is c.index-second-at.is
    ∙ ap (λ (o : Option Compared). first_of_two o (back_from races first second at)) none
    ∙ ap (back_from races first second) next

pub returns : goal.returns
returns c =
    let none : length c.args.races.now - c.loop-back.back ≡ 0 = omega (arith, c.loop-back-test.false) in
    sym (c.loop-back.invariant
    ∙ ap (back_from c.args.races.now c.args.first.now c.args.second.now) none)
