use Rattle.std.proofs.Common.{◌∙◌, map, subst, sym, take}
use Rattle.regatta_terms.specs.Rules.{RulesParts}
use Rattle.regatta_board.specs.KeptJournal.{kept_of}
use Rattle.regatta_board.specs.RanksAfter.{boat_rank}
use Rattle.regatta_board.specs.Scoring.{IsScoring}
use Rattle.regatta_board.specs.Table.{Kept, columns, races, rows}
use Rattle.regatta_board.proofs.RowsOver.{journal_ranks}
use Rattle.regatta_board.proofs.board.Board.ranks_after.Goals as goal

pub ranks-requires-clause-scoring : goal.ranks-requires-clause-scoring
ranks-requires-clause-scoring c =
    let own = c.args.self.now in
    subst (λ (k : Kept). IsScoring c.rules.result.now k c.scoring.result.now)
    (sym c.kept.ensures.value)
    (subst (λ (r : RulesParts). IsScoring r (kept_of own.rules own.entries) c.scoring.result.now)
    (sym c.rules.ensures) c.scoring.ensures.value)

pub returns : goal.returns
returns c =
    let own = c.args.self.now in
    c.new.ensures ∙ c.in_ok-ranks.ensures
    ∙ (λ i. map boat_rank (rows (c.rules.ensures i) (c.kept.ensures.value i).sails
    (columns (c.rules.ensures i) (c.kept.ensures.value i).sheets
    (take c.args.many (races (c.kept.ensures.value i).counts)))))
    ∙ journal_ranks own.rules own.entries c.kept.ensures.lawful c.args.many
