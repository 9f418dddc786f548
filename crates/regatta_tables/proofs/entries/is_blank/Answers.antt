use Rattle.std.proofs.Common.{◌≡◌, ◌∙◌, true, sym, ap}
use Rattle.std.specs.List.{list_all}
use Rattle.std.proofs.lemmas.List.{take_all}
use Rattle.std.proofs.lemmas.List.Folds.{list_all_at}
use Rattle.regatta_terms.specs.Words.{is_space}
use Rattle.regatta_tables.proofs.ListFacts.{blank_fields}
use Rattle.regatta_tables.proofs.entries.is_blank.Goals as goal

pub returns-then-not-are_spaces : goal.returns-then-not-are_spaces
returns-then-not-are_spaces c =
    sym (blank_fields c.args.fields.now
    ∙ list_all_at (λ field. list_all is_space field.now) c.args.fields.now c.loop-field.field-index
    _ c.loop-field-test.true (sym c.if-not-are_spaces.ensures))

pub returns : goal.returns
returns c =
    let whole : list_all (λ field. list_all is_space field.now) c.args.fields.now ≡ true =
    ap (list_all (λ field. list_all is_space field.now))
    (sym (take_all c.loop-field.field-index c.args.fields.now c.loop-field-test.false))
    ∙ c.loop-field.invariant in
    sym (blank_fields c.args.fields.now ∙ whole)
