use Rattle.std.proofs.Common.{◌∙◌, ap, map}
use Rattle.csv.specs.Records.{fields_of}
use Rattle.regatta_times.specs.Columns.{title_of}
use Rattle.regatta_times.proofs.SheetFacts.{texts_of}
use Rattle.regatta_times.proofs.records.titles_of.Goals as goal

pub returns : goal.returns
returns c = c.in_ok-texts.ensures
    ∙ texts_of title_of c.deref.result.now (fields_of c.args.header.now)
    (ap (map (λ field. field.now)) c.deref.ensures.value ∙ c.in_ok-fields.ensures)
