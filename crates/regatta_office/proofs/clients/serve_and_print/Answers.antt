use Rattle.std.proofs.Common.{ap, subst, sym, ◌∙◌, arith}
use mathlib.Core.List.{IsPrefix}
use Rattle.regatta_board.specs.BoardFacts.{BoardValue}
use Rattle.regatta_desk.specs.Desks.{DeskValue}
use Rattle.regatta_office.proofs.Printing.{at_most_printed, table_printed}
use Rattle.regatta_office.proofs.Seats.{as_many, if_ok}
use Rattle.regatta_office.proofs.clients.serve_and_print.Goals as goal

-- the desk's board is lawful under the rules of its office, and begins with the start
pub returns-clause-printed : goal.returns-clause-printed
returns-clause-printed g c = record {
  table = table_printed g.W.Device.contents g.N.OfficeName.rules c.args.start.journal
      c.args.output.now c.print_final-printed.new.output c.board.result.now
      (ap (λ (board : BoardValue). board.rules) c.board.ensures.board ∙ c.board.ensures.rules)
      (subst (IsPrefix c.args.start.journal)
      (ap (λ (d : DeskValue). d.entries) (sym c.cover_note.ensures.same)
      ∙ sym (ap (λ (board : BoardValue). board.entries) c.board.ensures.board))
      c.cover_note.ensures.front) (rw (c.board.ensures.board) c.board.ensures.lawful)
      c.print_final-printed.ensures.appendix_a
      c.print_final-printed.result c.print_final-printed.ensures.wrote;
  at_most = at_most_printed g.W.Device.contents g.N.OfficeName.rules c.args.start.journal
      c.args.output.now c.print_final-printed.new.output c.board.result.now
      (ap (λ (board : BoardValue). board.rules) c.board.ensures.board ∙ c.board.ensures.rules)
      (subst (IsPrefix c.args.start.journal)
      (ap (λ (d : DeskValue). d.entries) (sym c.cover_note.ensures.same)
      ∙ sym (ap (λ (board : BoardValue). board.entries) c.board.ensures.board))
      c.cover_note.ensures.front) (rw (c.board.ensures.board) c.board.ensures.lawful)
      c.print_final-printed.ensures.appendix_a
      c.print_final-printed.result c.print_final-printed.ensures.wrote c.print_final-printed.ensures.cut
      c.print_final-printed.ensures.silent;
}

pub returns-clause-count : goal.returns-clause-count
returns-clause-count g c = if_ok c.serve_each-back.result.0
    (λ back same. omega (
      arith,
      back.ok,
      c.args.passes.ok,
      as_many (λ p. p.seat) c.args.passes.items back.items same.same,
    ))
    c.serve_each-back.ensures.served.seats
