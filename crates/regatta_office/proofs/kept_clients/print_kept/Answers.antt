use Rattle.std.proofs.Common.{◌≡◌, refl, ap, subst, sym, ◌∙◌}
use Rattle.std.specs.Io.KnownBytes.{Appends}
use mathlib.Core.List.{IsPrefix}
use Rattle.regatta_terms.specs.Rules.{RulesParts}
use Rattle.regatta_scores.specs.AppendixA.{IsAppendixA}
use Rattle.regatta_scores.specs.Journal.{Journal}
use Rattle.regatta_scores.specs.Standing.{standing}
use Rattle.regatta_board.specs.BoardFacts.{BoardValue}
use Rattle.regatta_desk.specs.Desks.{DeskValue}
use Rattle.regatta_office.specs.Transcript.{final_text}
use Rattle.regatta_office.specs.declared.form.Form.TheVariants.{Table}
use Rattle.regatta_office.proofs.Printing.{at_most_printed}
use Rattle.regatta_office.proofs.kept_clients.print_kept.Goals as goal

-- the desk's board is lawful under the rules of its office, begins with the start, and is a beginning
-- of what is kept
pub returns-in-Ok-print_table-clause-printed : goal.returns-in-Ok-print_table-clause-printed
returns-in-Ok-print_table-clause-printed g c =
    let same : c.board.result.now.rules ≡ g.N.OfficeName.rules =
    ap (λ (board : BoardValue). board.rules) c.board.ensures.board ∙ c.board.ensures.rules in
    let shown : c.cover_note.new.self.entries ≡ c.board.result.now.entries =
    ap (λ (d : DeskValue). d.entries) (sym c.in-Some.ensures.same)
    ∙ sym (ap (λ (board : BoardValue). board.entries) c.board.ensures.board) in
    record {
      table = record {
        journal = c.board.result.now.entries;
        begins = subst (IsPrefix c.args.start.journal)
            (ap (λ (d : DeskValue). d.entries) (sym c.cover_note.ensures.same) ∙ shown)
            c.cover_note.ensures.front;
        lawful = rw (c.board.ensures.board) c.board.ensures.lawful;
        covered = subst (λ (j : Journal). IsPrefix j c.in-Some.kept) shown c.in-Some.ensures.begins;
        table = standing g.N.OfficeName.rules c.board.result.now.entries;
        appendix_a = subst (λ (rules : RulesParts). IsAppendixA rules c.board.result.now.entries
            (standing rules c.board.result.now.entries)) same c.in-Ok-print_table.ensures.appendix_a;
        computed = refl;
        wrote = subst (λ (rules : RulesParts). Appends (g.W.Device.contents c.args.output.now)
            (g.W.Device.contents c.print_table.new.self)
            (final_text rules Table c.board.result.now.entries)) same c.in-Ok-print_table.ensures.wrote;
      };
      at_most = at_most_printed g.W.Device.contents g.N.OfficeName.rules c.args.start.journal
          c.args.output.now c.print_table.new.self c.board.result.now
          (ap (λ (board : BoardValue). board.rules) c.board.ensures.board ∙ c.board.ensures.rules)
          (subst (IsPrefix c.args.start.journal)
          (ap (λ (d : DeskValue). d.entries) (sym c.cover_note.ensures.same) ∙ shown)
          c.cover_note.ensures.front) (rw (c.board.ensures.board) c.board.ensures.lawful)
          c.print_table.ensures.appendix_a c.print_table.result c.print_table.ensures.wrote c.print_table.ensures.cut
          c.print_table.ensures.silent;
    }

pub returns-clause-printed : goal.returns-clause-printed
returns-clause-printed g c =
    let shown : c.cover_note.new.self.entries ≡ c.board.result.now.entries =
    ap (λ (d : DeskValue). d.entries) (sym c.in-Some.ensures.same)
    ∙ sym (ap (λ (board : BoardValue). board.entries) c.board.ensures.board) in
    record {
      table = tt;
      at_most = at_most_printed g.W.Device.contents g.N.OfficeName.rules c.args.start.journal
          c.args.output.now c.print_table.new.self c.board.result.now
          (ap (λ (board : BoardValue). board.rules) c.board.ensures.board ∙ c.board.ensures.rules)
          (subst (IsPrefix c.args.start.journal)
          (ap (λ (d : DeskValue). d.entries) (sym c.cover_note.ensures.same) ∙ shown)
          c.cover_note.ensures.front) (rw (c.board.ensures.board) c.board.ensures.lawful)
          c.print_table.ensures.appendix_a c.print_table.result c.print_table.ensures.wrote c.print_table.ensures.cut
          c.print_table.ensures.silent;
    }
