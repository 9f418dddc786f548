use Rattle.std.proofs.Common.{◌∙◌, [], ap, arith, cond, length, Some, subst}
use Rattle.regatta_scores.specs.KeptRanking.{IsRanking}
use Rattle.regatta_board.specs.Scoring.{Scoring, columns_in, with_column}
use Rattle.regatta_board.specs.Table.{column, races}
use Rattle.regatta_board.proofs.Lines.{lines_long}
use Rattle.regatta_board.proofs.Updates.{all_lines, counts_even}
use Rattle.regatta_board.proofs.scoring.update.update_of_race.Goals as goal

pub lines_of_races-requires-clause-even : goal.lines_of_races-requires-clause-even
lines_of_races-requires-clause-even c =
    counts_even c.requires.may c.sheet.ensures.range
    (c.in_ok-column.ensures.value
    ∙ ap (λ s. cond c.args.counts (column c.args.rules.now s) []) c.sheet.ensures.value)
    (c.deref-2.ensures.value ∙ ap (λ (s : Scoring). s.columns) c.scoring.view_is)
    (c.deref-3.ensures.value ∙ c.in_ok-races.ensures.value
    ∙ ap races (c.deref.ensures.value ∙ c.in_ok-counts.ensures.value))
    c.boats.ensures

pub of-requires : goal.of-requires
of-requires c =
    let slots = with_column c.deref-2.result.now
    (Some (record { race = c.args.race; column = c.in_ok-column.column })) in
    omega (
      arith,
      ap length (c.deref-4.ensures.value ∙ c.in_ok-lines.ensures.value),
      lines_long c.args.rules.now (columns_in slots c.deref-3.result.now) c.boats.result,
      c.boats.ensures,
      c.requires.may.kept.few,
    )

pub returns-clause-value : goal.returns-clause-value
returns-clause-value c =
    let counted = c.in_ok-races.ensures.value
    ∙ ap races (c.deref.ensures.value ∙ c.in_ok-counts.ensures.value) in
    all_lines c.requires.may c.sheet.ensures.range
    (c.in_ok-column.ensures.value
    ∙ ap (λ s. cond c.args.counts (column c.args.rules.now s) []) c.sheet.ensures.value)
    (c.deref-2.ensures.value ∙ ap (λ (s : Scoring). s.columns) c.scoring.view_is)
    (c.deref-3.ensures.value ∙ counted) c.boats.ensures c.in_ok-lines.ensures.room
    c.in_ok-lines.ensures.value
    (subst (λ ls. IsRanking ls c.in_ok-ranking.ranking) c.deref-4.ensures.value
    c.in_ok-ranking.ensures)
    c.in_ok-counts.counts c.in_ok-counts.ensures.value (c.new.ensures ∙ counted)
