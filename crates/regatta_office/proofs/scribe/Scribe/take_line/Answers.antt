use Rattle.std.proofs.Common.{◌≡◌, [], List, ℕ, length, refl, rules, ap, ◌∙◌, sym}
use Rattle.std.specs.List.{fold}
use Rattle.regatta_terms.specs.Lines.{line_of}
use Rattle.regatta_talk.specs.HeardLines.{heard_with}
use Rattle.regatta_office.specs.Scribes.{point}
use Rattle.regatta_office.proofs.HeardFacts.{nothing, whole_reads}
use Rattle.regatta_office.proofs.Streams.{line_taken_ok}
use Rattle.regatta_office.proofs.scribe.Scribe.take_line.Goals as goal

-- the line goes over two pieces
pub returns-then-not-is_empty-clause-went : goal.returns-then-not-is_empty-clause-went
returns-then-not-is_empty-clause-went c =
    line_taken_ok _ _ (point c.args.self.now) _ c.args.rest.now c.hear.new.self [] _ refl
    c.requires (ap line_of (sym c.hear.ensures)) c.end_line.ensures.quit c.end_line.ensures.due
    c.end_line.ensures.after

-- it is whole
pub returns-clause-went : goal.returns-clause-went
returns-clause-went c =
    let rest = c.args.rest.now in
    let none : length c.args.self.now.cutter ≡ 0 = search rules in
    let empty : c.args.self.now.cutter ≡ [] = nothing c.args.self.now.cutter none in
    line_taken_ok _ _ (point c.args.self.now) _ rest rest c.args.self.now.cutter _ empty
    c.requires
    (ap (λ (l : List ℕ). line_of (fold heard_with l rest)) empty ∙ whole_reads rest c.requires)
    (rw c.asked_by.ensures at c.answer.ensures.quit)
    (rw c.asked_by.ensures at c.answer.ensures.due)
    (rw c.asked_by.ensures at c.answer.ensures.after)
