use Rattle.std.proofs.Common.{◌≡◌, ◌++◌, Some, map, flat_map, ap, sym, subst, ◌∙◌}
use Rattle.std.proofs.KnownBytes.{Appends-trans}
use Rattle.std.proofs.lemmas.List.Folds.{flat_map-map}
use Rattle.std.specs.Io.KnownBytes.{Appends}
use Rattle.csv.specs.Writing as written
use Rattle.csv.specs.Writing.{row_text}
use Rattle.regatta_tables.specs.CsvTexts.{any_lengths, header_fields}
use Rattle.regatta_tables.specs.TableTexts.{row_words}
use Rattle.regatta_tables.proofs.results.write_results.Goals as goal

pub returns : goal.returns
returns c =
    let races : map (λ field. field.items) c.as_slice-2.result.now
    ≡ header_fields c.args.standing.now.races = (λ i. map (λ field. field.items)
    (c.as_slice-2.ensures.value i)) ∙ c.in-Ok.ensures ∙ ap header_fields c.as_slice.ensures in
    let rows : flat_map (λ row. row_text any_lengths (row_words row)) c.as_slice-3.result.now
    ≡ flat_map (λ fs. row_text any_lengths fs) (map row_words c.args.standing.now.rows) =
    ap (flat_map (λ row. row_text any_lengths (row_words row))) c.as_slice-3.ensures
    ∙ sym (flat_map-map (λ fs. row_text any_lengths fs) row_words c.args.standing.now.rows) in
    record {
      text = subst (Appends (written.text_written (λ v. Some v.items) c.args.writer.now)
          (written.text_written (λ v. Some v.items) c.write_rows.new.writer))
          (λ i. row_text any_lengths (races i) ++ rows i)
          (Appends-trans (written.text_written (λ v. Some v.items) c.args.writer.now)
          (written.text_written (λ v. Some v.items) c.write_record.new.writer)
          (written.text_written (λ v. Some v.items) c.write_rows.new.writer)
          (row_text any_lengths (map (λ field. field.items) c.as_slice-2.result.now))
          (flat_map (λ row. row_text any_lengths (row_words row)) c.as_slice-3.result.now)
          c.in_ok-write_record.ensures.text c.in_ok-write_rows.ensures.text);
    }
