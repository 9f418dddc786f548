use Rattle.std.proofs.Common.{◌≡◌, ◌∙◌, ap, subst, sym, length, All}
use Rattle.regatta_board.specs.Table.{lines}
use Rattle.regatta_board.proofs.Columns.{columns_few}
use Rattle.regatta_board.proofs.scoring.lines_of_races.Goals as goal

pub whole_lines-requires-clause-even : goal.whole_lines-requires-clause-even
whole_lines-requires-clause-even c =
    subst (λ cs. All (λ column. length column ≡ c.args.boats) cs)
    (sym (c.deref.ensures.value ∙ c.in_ok-found.ensures)) c.requires.even

pub whole_lines-requires-clause-few : goal.whole_lines-requires-clause-few
whole_lines-requires-clause-few c =
    columns_few _ c.args.races.now c.deref.result.now (c.deref.ensures.value ∙ c.in_ok-found.ensures)
    c.requires.few

pub returns-clause-value : goal.returns-clause-value
returns-clause-value c =
    c.in_ok-lines.ensures.value
    ∙ ap (λ cs. lines c.args.rules.now cs c.args.boats)
    (c.deref.ensures.value ∙ c.in_ok-found.ensures)
