use Rattle.std.proofs.Common.{◌∙◌, ap, length, refl, sym, Some}
use borrow.Author.Tests.{leb-false}
use Rattle.regatta_scores.specs.Journal.{same_sail, entered}
use Rattle.regatta_board.specs.Refusals.{limits}
use Rattle.regatta_board.specs.Table.{Kept}
use Rattle.regatta_board.proofs.Found.{index_past}
use Rattle.regatta_board.proofs.ledger.Ledger.enter.Goals as goal

pub returns-in-Err-2 : goal.returns-in-Err-2
returns-in-Err-2 c role =
    let sails = entered c.args.self.now.entries in
    let out = c.in-Err-2.ensures.out in
    let room = sym c.is_full.ensures ∙ c.if-is_full.false in
    let number = c.next_number.ensures ∙ ap length c.entry_list.ensures
    ∙ ap (λ (k : Kept). length k.sails) c.kept.ensures.value
    ∙ index_past (same_sail c.args.sail) sails out in (
      rw (out, room) refl,
      record {
        boat = ap Some number;
        step = refl;
        fits = (leb-false limits.boats (length sails) room, out);
      },
    )
