use Rattle.std.proofs.Common.{◌≡◌, ℕ, ◌<◌, ◌∙◌, [], ap, arith, cond, false, get_or}
use Rattle.regatta_terms.specs.declared.limits.TheConstants.{MAX_RACES}
use Rattle.regatta_board.specs.Table.{column}
use Rattle.regatta_board.proofs.Columns.{counted_more}
use Rattle.regatta_board.proofs.Scored.{columns_pushed, columns_all}
use Rattle.regatta_board.proofs.column.all_columns.Goals as goal

pub loop-k-preserved : goal.loop-k-preserved
loop-k-preserved c = record {
  are = columns_pushed c.args.rules.now c.args.sheets.now c.args.counts.now c.loop-k.k
      c.loop-k.columns.items _ _ c.in_ok-push.ensures.items c.loop-k.invariant.long
      c.loop-k.invariant.are
      (c.in_ok-column_if.ensures.value
      ∙ ap (λ s. cond (get_or c.args.counts.now c.loop-k.k false) (column c.args.rules.now s) [])
      c.at.ensures);
  long = grind (arith);
  work = counted_more c.args.counts.now c.loop-k.k _ _ _ c.loop-k.invariant.work
      c.in_ok-column_if.ensures.counted;
  few = grind (arith);
}

pub returns-clause-value : goal.returns-clause-value
returns-clause-value c =
    let all : ◌≡◌ {A = ℕ} c.loop-k.k MAX_RACES = omega arith in
    columns_all c.args.rules.now c.args.sheets.now c.args.counts.now c.loop-k.columns.items
    c.requires.counts (omega (arith, c.loop-k.invariant.long))
    (λ (k : ℕ) (h : k < MAX_RACES). c.loop-k.invariant.are k (omega (arith, h)))
