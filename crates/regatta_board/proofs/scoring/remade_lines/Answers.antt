use Rattle.std.proofs.Common.{◌≡◌, ◌-◌, ◌∙◌, [], ap, arith, subst, length, get_or, Some}
use Rattle.std.proofs.lemmas.Grind.{common_steps}
use Rattle.regatta_board.specs.Scoring.{Scoring, AreNewLines, columns_in, with_column}
use Rattle.regatta_board.specs.Table.{lines}
use Rattle.regatta_board.proofs.scoring.remade_lines.Goals as goal

-- the lines before
ls : (c : goal.After-deref-3) → c.deref-2.result.now ≡ c.args.scoring.now.lines
ls c = c.deref-2.ensures.value ∙ ap (λ (s : Scoring). s.lines) c.scoring.view_is

-- the columns of the races that count
each : (c : goal.After-deref-3) → c.deref-3.result.now
    ≡ columns_in (with_column c.args.scoring.now.columns (Some c.args.column.now))
    c.args.scoring.now.races
each c =
    let cols : c.deref.result.now ≡ c.args.scoring.now.columns =
    c.deref.ensures.value ∙ ap (λ (s : Scoring). s.columns) c.scoring.view_is in
    let rs : c.as_slice.result.now ≡ c.args.scoring.now.races =
    c.as_slice.ensures ∙ ap (λ (s : Scoring). s.races) c.scoring.view_is in
    c.deref-3.ensures.value ∙ c.in_ok-found.ensures
    ∙ (λ i. columns_in (with_column (cols i) (Some c.args.column.now)) (rs i))

pub changed_lines-requires : goal.changed_lines-requires
changed_lines-requires c =
    let a = c.args in
    let was : c.index-old.result.now ≡ get_or a.scoring.now.columns (a.column.now.race - 1) [] =
    grind (arith, common_steps) in
    rw (ls c, was, c.as_race_column-new.ensures, each c) c.requires.turned

pub returns : goal.returns
returns c =
    let l = c.args.scoring.now in
    let cols : c.deref.result.now ≡ l.columns =
    c.deref.ensures.value ∙ ap (λ (s : Scoring). s.columns) c.scoring.view_is in
    let rs : c.as_slice.result.now ≡ l.races =
    c.as_slice.ensures ∙ ap (λ (s : Scoring). s.races) c.scoring.view_is in
    let found = c.deref-3.ensures.value ∙ c.in_ok-found.ensures
    ∙ (λ i. columns_in (with_column (cols i) (Some c.args.column.now)) (rs i)) in
    let lines_are : c.deref-2.result.now ≡ l.lines =
    c.deref-2.ensures.value ∙ ap (λ (s : Scoring). s.lines) c.scoring.view_is in
    subst (λ found. AreNewLines l.lines (lines c.args.rules.now found (length l.lines))
    c.in_ok-lines.lines.items) found
    (subst (λ xs. AreNewLines xs (lines c.args.rules.now c.deref-3.result.now (length xs))
    c.in_ok-lines.lines.items) lines_are c.in_ok-lines.ensures)
