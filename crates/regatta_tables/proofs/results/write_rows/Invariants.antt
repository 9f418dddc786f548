use Rattle.std.proofs.Common.{◌≡◌, Some, false, flat_map, take}
use Rattle.std.specs.Io.KnownBytes.{Appends}
use Rattle.csv.specs.Writing as written
use Rattle.csv.specs.Writing.{row_text}
use Rattle.regatta_tables.specs.CsvTexts.{any_lengths}
use Rattle.regatta_tables.specs.TableTexts.{row_words}
use Rattle.regatta_tables.proofs.results.write_rows.Given as goal

abbrev pub invariant-loop-row : goal.invariant-loop-row
invariant-loop-row l = record {
  text : Appends (written.text_written (λ v. Some v.items) l.fn.writer)
      (written.text_written (λ v. Some v.items) l.writer)
      (flat_map (λ row. row_text any_lengths (row_words row)) (take l.row-index l.rows));
  fields : written.fields_written l.writer ≡ 0;
  wrote : written.has_written l.writer ≡ false;
  setup : written.writer_setup l.writer ≡ any_lengths;
}
