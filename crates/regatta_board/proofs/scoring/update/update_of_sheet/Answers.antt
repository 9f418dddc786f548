use Rattle.std.proofs.Common.{◌≡◌, ◌∙◌, ap, arith, length, subst, sym}
use borrow.Author.Tests.{eqb-true}
use Rattle.regatta_scores.specs.Changes.{after}
use Rattle.regatta_scores.specs.Current.{with_changed}
use Rattle.regatta_scores.specs.KeptRanking.{IsRanking}
use Rattle.regatta_board.specs.declared.scoring.update.Update.TheVariants as update
use Rattle.regatta_board.specs.Scoring.{Scoring}
use Rattle.regatta_board.specs.Step.{with_sheet}
use Rattle.regatta_board.specs.Update.{IsUpdate}
use Rattle.regatta_board.proofs.Updates.{lines_before, same_lines, sheet_update, some_lines}
use Rattle.regatta_board.proofs.scoring.update.update_of_sheet.Goals as goal

pub returns-then-not-is_scored-clause-value : goal.returns-then-not-is_scored-clause-value
returns-then-not-is_scored-clause-value c =
    let a = c.args in
    subst (λ s. IsUpdate a.rules.now a.kept.now (with_sheet a.kept.now a.race s)
    (update.Sheet a.race c.in_ok-sheet.sheet))
    (c.in_ok-sheet.ensures ∙ ap (λ s. after s a.change) c.sheet.ensures.value)
    (sheet_update c.requires.may.scoring a.race c.in_ok-sheet.sheet
    (sym c.if-not-is_scored.ensures.value))

pub remade_lines-requires-clause-turned : goal.remade_lines-requires-clause-turned
remade_lines-requires-clause-turned c =
    lines_before c.requires.may c.sheet.ensures.range (sym c.if-not-is_scored.ensures.value)
    (c.in_ok-sheet.ensures ∙ ap (λ s. after s c.args.change) c.sheet.ensures.value)
    c.in_ok-column.ensures.value

pub returns-then-is_empty-clause-value : goal.returns-then-is_empty-clause-value
returns-then-is_empty-clause-value c =
    same_lines c.requires.may c.sheet.ensures.range (sym c.if-not-is_scored.ensures.value)
    (c.in_ok-sheet.ensures ∙ ap (λ s. after s c.args.change) c.sheet.ensures.value)
    c.in_ok-column.ensures.value c.in_ok-lines.lines.items c.in_ok-lines.ensures
    (omega (arith, eqb-true c.in_ok-lines.lines.len 0 (sym c.is_empty.ensures ∙ c.if-is_empty.true)))

pub after-requires-2-clause-few : goal.after-requires-2-clause-few
after-requires-2-clause-few c =
    let before = lines_before c.requires.may c.sheet.ensures.range
    (sym c.if-not-is_scored.ensures.value)
    (c.in_ok-sheet.ensures ∙ ap (λ s. after s c.args.change) c.sheet.ensures.value)
    c.in_ok-column.ensures.value in
    let ls = ap length (c.deref.ensures.value ∙ ap (λ (s : Scoring). s.lines) c.scoring.view_is) in
    omega (arith, ls, before.most)

pub after-requires-2-clause-fewer : goal.after-requires-2-clause-fewer
after-requires-2-clause-fewer c =
    omega (
      arith,
      after-requires-2-clause-few c,
      ap length c.deref-2.ensures.value,
      c.in_ok-lines.ensures.fewer,
      ap length (c.deref.ensures.value ∙ ap (λ (s : Scoring). s.lines) c.scoring.view_is),
    )

pub after-requires-2-clause-each : goal.after-requires-2-clause-each
after-requires-2-clause-each c =
    let ls : c.deref.result.now ≡ c.args.scoring.now.lines =
    c.deref.ensures.value ∙ ap (λ (s : Scoring). s.lines) c.scoring.view_is in
    rw (ls, c.deref-2.ensures.value) c.in_ok-lines.ensures.each

pub returns-clause-value : goal.returns-clause-value
returns-clause-value c =
    let ls : c.deref.result.now ≡ c.args.scoring.now.lines =
    c.deref.ensures.value ∙ ap (λ (s : Scoring). s.lines) c.scoring.view_is in
    some_lines c.requires.may c.sheet.ensures.range (sym c.if-not-is_scored.ensures.value)
    (c.in_ok-sheet.ensures ∙ ap (λ s. after s c.args.change) c.sheet.ensures.value)
    c.in_ok-column.ensures.value c.in_ok-lines.lines c.in_ok-lines.ensures
    (subst (λ xs. IsRanking (with_changed xs c.in_ok-lines.lines.items) c.in_ok-ranking.ranking) ls
    (subst (λ new. IsRanking (with_changed c.deref.result.now new) c.in_ok-ranking.ranking)
    c.deref-2.ensures.value c.in_ok-ranking.ensures))
