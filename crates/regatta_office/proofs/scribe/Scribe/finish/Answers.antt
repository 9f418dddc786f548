use Rattle.std.proofs.Common.{◌≡◌, ◌<◌, ◌++◌, List, ℕ, length, refl, rules, ap, ◌∙◌, subst}
use Rattle.std.specs.Io.KnownBytes.{Appends}
use Rattle.regatta_streams.specs.Texts.{AppendsPrefix}
use Rattle.regatta_terms.specs.Lines.{line_of}
use Rattle.regatta_office.specs.Scribes.{point}
use Rattle.regatta_office.specs.Turns.{text_after}
use Rattle.regatta_office.proofs.Streams.{finished_line, finished_none, last_cut}
use Rattle.regatta_office.proofs.scribe.Scribe.finish.Goals as goal

pub returns-then-is_empty-clause-finished : goal.returns-then-is_empty-clause-finished
returns-then-is_empty-clause-finished g c =
    let none : length c.args.self.now.cutter ≡ 0 = search rules in
    finished_none _ (point c.args.self.now) _ none refl

pub returns-in-Ok-write_all-clause-finished : goal.returns-in-Ok-write_all-clause-finished
returns-in-Ok-write_all-clause-finished g c =
    let before = point c.args.self.now in
    let some : 0 < length c.args.self.now.cutter = search rules in
    let due : c.end_line.new.self.due.items ≡ text_after before.rules before.talk
    (line_of before.line) = c.in-Ok.ensures.due
    ∙ ap (λ (t : List ℕ). t ++ text_after before.rules before.talk (line_of before.line))
    c.clear.ensures.items in
    finished_line _ _ before _ some
    (subst (Appends (g.W.Device.contents c.args.output.now)
    (g.W.Device.contents c.write_all.new.output)) due
    (rw c.deref.ensures.value at c.in-Ok-write_all.ensures.ok))
    c.in-Ok.ensures.after

pub returns-in-Err-clause-cut : goal.returns-in-Err-clause-cut
returns-in-Err-clause-cut g c = λ is.
    let before = point c.args.self.now in
    let some : 0 < length c.args.self.now.cutter = search rules in
    let due : c.end_line.new.self.due.items ≡ text_after before.rules before.talk
    (line_of before.line) = c.in-Ok.ensures.due
    ∙ ap (λ (t : List ℕ). t ++ text_after before.rules before.talk (line_of before.line))
    c.clear.ensures.items in
    last_cut _ _ before some
    (subst (AppendsPrefix (g.W.Device.contents c.args.output.now)
    (g.W.Device.contents c.write_all.new.output)) due
    (rw c.deref.ensures.value at c.in-Err.ensures.cut))
