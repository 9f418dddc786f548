use Rattle.std.proofs.Common.{sym, subst}
use Rattle.regatta_board.specs.Step.{with_sheet}
use Rattle.regatta_board.specs.Table.{Kept, IsKept}
use Rattle.regatta_board.proofs.LedgerLemmas.{as_many_boats}
use Rattle.regatta_board.proofs.kept.Kept.put_sheet.Goals as goal

pub put-requires-clause-alike : goal.put-requires-clause-alike
put-requires-clause-alike c =
    let k = c.self.inside in
    let kept : Kept = record { sails = k.boats; sheets = k.sheets; counts = k.counts.items } in
    let next : IsKept (with_sheet kept c.args.race c.args.sheet) =
    subst (λ s. IsKept (with_sheet s c.args.race c.args.sheet)) (sym c.self.view_is)
    c.requires.next in
    rw c.index_of.ensures.value (as_many_boats kept
    (subst IsKept (sym c.self.view_is) c.requires.kept) c.args.race c.index_of.ensures.range
    c.args.sheet next)
