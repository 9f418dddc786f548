use Rattle.std.proofs.Common.{◌≢◌}
use Rattle.csv.specs.declared.writer.QuoteStyle.TheVariants as style
use Rattle.regatta_tables.proofs.results.write_record.Goals as goal

pub returns-clause-text : goal.returns-clause-text
returns-clause-text c =
    let plain : c.args.writer.now.cfg.style ≢ style.NonNumeric = rw c.requires.setup (λ e. cc e) in
    let text = c.in_ok-write_fields.ensures.bytes c.requires.fields c.requires.wrote plain in
    rw (c.requires.setup, c.as_slice.ensures.value, c.in-Ok.ensures) at text
