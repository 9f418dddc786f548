use Rattle.std.proofs.Common.{◌≡◌, ◌∙◌, ap, arith, length, refl, subst}
use Rattle.regatta_scores.specs.KeptRanking.{IsRanking}
use Rattle.regatta_board.specs.Scoring.{columns_in, AreColumns}
use Rattle.regatta_board.specs.Table.{races}
use Rattle.regatta_board.proofs.Lines.{lines_long}
use Rattle.regatta_board.proofs.ScoringFacts.{found_even, found_lines}
use Rattle.regatta_board.proofs.scoring.Scoring.of.Goals as goal

-- the columns are those of what is kept
are : (c : goal.After-boats) → AreColumns c.args.rules.now c.args.kept.now.sheets
    c.args.kept.now.counts c.deref.result.now
are c = rw (c.deref.ensures.value, ← c.sheets.ensures, ← c.counts-2.ensures)
    c.in_ok-columns.ensures.value

-- so are the races
rs : (c : goal.After-boats) → c.deref-2.result.now ≡ races c.args.kept.now.counts
rs c = c.deref-2.ensures.value ∙ c.in_ok-races.ensures.value ∙ ap races c.counts.ensures

pub lines_of_races-requires-clause-long : goal.lines_of_races-requires-clause-long
lines_of_races-requires-clause-long c = ap length c.deref.ensures.value ∙ c.in_ok-columns.ensures.long

pub lines_of_races-requires-clause-even : goal.lines_of_races-requires-clause-even
lines_of_races-requires-clause-even c =
    found_even c.args.rules.now c.args.kept.now c.requires _ (are c) (rs c) refl c.boats.result
    c.boats.ensures

pub returns : goal.returns
returns c =
    let rs : c.deref-2.result.now ≡ races c.args.kept.now.counts =
    c.deref-2.ensures.value ∙ c.in_ok-races.ensures.value ∙ ap races c.counts.ensures in
    let are : AreColumns c.args.rules.now c.args.kept.now.sheets c.args.kept.now.counts
    c.in_ok-columns.columns.items =
    rw (← c.sheets.ensures, ← c.counts-2.ensures) c.in_ok-columns.ensures.value in
    let found : AreColumns c.args.rules.now c.args.kept.now.sheets c.args.kept.now.counts
    c.deref.result.now = rw c.deref.ensures.value are in
    record {
      races = c.new.ensures ∙ c.in_ok-races.ensures.value ∙ ap races c.counts.ensures;
      long = c.in_ok-columns.ensures.long;
      columns = are;
      lines = c.in_ok-lines.ensures.value
          ∙ found_lines c.args.rules.now c.args.kept.now c.requires _ found rs refl c.boats.result
          c.boats.ensures;
      ranking = subst (λ ls. IsRanking ls c.in_ok-ranking.ranking) c.deref-3.ensures.value
          c.in_ok-ranking.ensures;
    }

pub of-requires : goal.of-requires
of-requires c =
    omega (
      arith,
      ap length (c.deref-3.ensures.value ∙ c.in_ok-lines.ensures.value),
      lines_long c.args.rules.now (columns_in c.deref.result.now c.deref-2.result.now)
          c.boats.result,
      c.boats.ensures,
      c.requires.few,
    )
