use Rattle.std.proofs.Common.{◌≡◌, ◌+◌, ◌∙◌, ◌∷◌, ◌++◌, [], ap, arith, length, length-append}
use Rattle.std.proofs.Common.{refl, subst, sym}
use Rattle.regatta_scores.specs.KeptRanking.{IsRanking}
use Rattle.regatta_board.specs.declared.scoring.update.Update.TheVariants as update
use Rattle.regatta_board.specs.Scoring.{Scoring, columns_in, AreColumns}
use Rattle.regatta_board.specs.Table.{Kept, IsKept, races, no_line}
use Rattle.regatta_board.specs.Update.{IsUpdate}
use Rattle.regatta_board.proofs.Columns.{races_few}
use Rattle.regatta_board.proofs.Lines.{lines_long}
use Rattle.regatta_board.proofs.ScoringFacts.{found_even, found_lines, lines_by_long}
use Rattle.regatta_board.proofs.Updates.{added_update, boat_step, entered_update, none_there}
use Rattle.regatta_board.proofs.scoring.update.update_of_boat.Goals as goal

pub with_boat-requires-then-is_empty-clause-few : goal.with_boat-requires-then-is_empty-clause-few
with_boat-requires-then-is_empty-clause-few c =
    omega (
      arith,
      ap length (c.deref.ensures.value ∙ ap (λ (s : Scoring). s.lines) c.scoring.view_is),
      ap length c.requires.may.scoring.lines,
      lines_by_long c.args.rules.now c.args.kept.now,
      c.requires.may.fits.0,
    )

pub returns-then-is_empty-clause-value : goal.returns-then-is_empty-clause-value
returns-then-is_empty-clause-value c =
    let a = c.args in
    let may = c.requires.may in
    let new = c.in_ok-boats in
    let boxed = c.in_ok-sheets.sheets in
    let sheets = c.in_ok-sheets.ensures.ok ∙ new.ensures.sheets in
    let ranking = c.in_ok-ranking.ranking in
    let ls : c.deref.result.now ≡ a.scoring.now.lines =
    c.deref.ensures.value ∙ ap (λ (s : Scoring). s.lines) c.scoring.view_is in
    let rs : c.as_slice-races.result.now ≡ races a.kept.now.counts =
    c.as_slice-races.ensures ∙ ap (λ (s : Scoring). s.races) c.scoring.view_is
    ∙ may.scoring.races in
    let one : length new.boats ≡ length a.kept.now.sails + 1 =
    omega (arith, ap length new.ensures.boats, length-append a.kept.now.sails (a.sail ∷ [])) in
    subst (λ (k : Kept). IsUpdate a.rules.now a.kept.now k
    (update.Added new.boats boxed ranking))
    (boat_step a.kept.now a.sail new.ensures.boats sheets)
    (added_update may.scoring new.boats boxed may.kept
    (sym rs ∙ none_there _ (sym c.is_empty.ensures ∙ c.if-is_empty.true)) one
    (omega (arith, one, may.fits.0)) ranking
    (subst (λ xs. IsRanking (xs ++ no_line ∷ []) ranking) ls
    (rw c.empty.ensures at c.in_ok-ranking.ensures)))

pub lines_of_races-requires-clause-few : goal.lines_of_races-requires-clause-few
lines_of_races-requires-clause-few c =
    let rs : c.as_slice-races.result.now ≡ races c.args.kept.now.counts =
    c.as_slice-races.ensures ∙ ap (λ (s : Scoring). s.races) c.scoring.view_is
    ∙ c.requires.may.scoring.races in
    rw rs (races_few c.args.kept.now.counts)

pub lines_of_races-requires-clause-even : goal.lines_of_races-requires-clause-even
lines_of_races-requires-clause-even c =
    let a = c.args in
    let new = c.in_ok-boats in
    let rs : c.as_slice-races.result.now ≡ races a.kept.now.counts =
    c.as_slice-races.ensures ∙ ap (λ (s : Scoring). s.races) c.scoring.view_is
    ∙ c.requires.may.scoring.races in
    let are : AreColumns a.rules.now new.sheets a.kept.now.counts c.deref-2.result.now =
    rw (c.deref-2.ensures.value, ← c.counts.ensures) c.in_ok-columns.ensures.value in
    found_even a.rules.now (record a.kept.now { sails = new.boats; sheets = new.sheets })
    (subst IsKept (sym (boat_step a.kept.now a.sail new.ensures.boats new.ensures.sheets))
    c.requires.may.whole) c.deref-2.result.now are rs refl c.len.result c.len.ensures

pub of-requires : goal.of-requires
of-requires c =
    let a = c.args in
    omega (
      arith,
      ap length (c.deref-3.ensures.value ∙ c.in_ok-lines.ensures.value),
      lines_long a.rules.now (columns_in c.deref-2.result.now c.as_slice-races.result.now)
          c.len.result,
      c.len.ensures,
      ap length c.in_ok-boats.ensures.boats,
      length-append a.kept.now.sails (a.sail ∷ []),
      c.requires.may.fits.0,
    )

pub returns-clause-value : goal.returns-clause-value
returns-clause-value c =
    let a = c.args in
    let may = c.requires.may in
    let new = c.in_ok-boats in
    let boxed = c.in_ok-sheets-2.sheets in
    let sheets = c.in_ok-sheets-2.ensures.ok in
    let fleet : Kept = record a.kept.now { sails = new.boats; sheets = boxed.value } in
    let turns = boat_step a.kept.now a.sail new.ensures.boats (sheets ∙ new.ensures.sheets) in
    let whole : IsKept fleet = subst IsKept (sym turns) may.whole in
    let made = c.in_ok-lines.lines in
    let ranking = c.in_ok-ranking-2.ranking in
    let rs : c.as_slice-races.result.now ≡ races a.kept.now.counts =
    c.as_slice-races.ensures ∙ ap (λ (s : Scoring). s.races) c.scoring.view_is
    ∙ may.scoring.races in
    let are : AreColumns a.rules.now boxed.value a.kept.now.counts c.in_ok-columns.columns.items =
    rw (sheets, ← c.counts.ensures) c.in_ok-columns.ensures.value in
    let found : AreColumns a.rules.now boxed.value a.kept.now.counts c.deref-2.result.now =
    rw c.deref-2.ensures.value are in
    subst (λ (k : Kept). IsUpdate a.rules.now a.kept.now k
    (update.Entered new.boats boxed c.in_ok-columns.columns made ranking)) turns
    (entered_update may.scoring new.boats boxed c.in_ok-columns.columns
    c.in_ok-columns.ensures.long are made c.in_ok-lines.ensures.room
    (c.in_ok-lines.ensures.value
    ∙ found_lines a.rules.now fleet whole c.deref-2.result.now found rs refl c.len.result c.len.ensures)
    ranking
    (subst (λ ls. IsRanking ls ranking) c.deref-3.ensures.value c.in_ok-ranking-2.ensures))

pub returns-clause-counted : goal.returns-clause-counted
returns-clause-counted c =
    omega (
      arith,
      c.in_ok-columns.ensures.counted,
      ap (λ counts. length (races counts)) c.counts.ensures,
    )
