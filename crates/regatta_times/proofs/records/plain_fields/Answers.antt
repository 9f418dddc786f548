use Rattle.std.proofs.Common.{◌∙◌, ap, map}
use Rattle.csv.specs.Records.{fields_of}
use Rattle.regatta_tables.specs.EntryLists.{without_spaces}
use Rattle.regatta_times.proofs.SheetFacts.{texts_of}
use Rattle.regatta_times.proofs.records.plain_fields.Goals as goal

pub returns : goal.returns
returns c = c.in_ok-texts.ensures
    ∙ texts_of without_spaces c.deref.result.now (fields_of c.args.row.now)
    (ap (map (λ field. field.now)) c.deref.ensures.value ∙ c.in_ok-fields.ensures)
