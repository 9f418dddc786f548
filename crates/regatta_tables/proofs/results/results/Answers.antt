use Rattle.std.proofs.Common.{◌≡◌, ℕ, List, [], ◌++◌, Some, ap, ◌∙◌}
use Rattle.csv.specs.Writing as written
use Rattle.regatta_tables.specs.CsvTexts.{csv_text}
use Rattle.regatta_tables.proofs.WrittenFacts.{all_written}
use Rattle.regatta_tables.proofs.results.results.Goals as goal

pub returns-in-Ok : goal.returns-in-Ok
returns-in-Ok c =
    let made = c.from_writer-writer.ensures in
    let begun : written.text_written (λ v. Some v.items) c.from_writer-writer.result
    ≡ Some (c.new-2.result.items ++ []) = λ i. Some ((made.wtr i).items ++ made.empty i) in
    let start : written.text_written (λ v. Some v.items) c.from_writer-writer.result
    ≡ Some [] = begun ∙ ap (λ (xs : List ℕ). Some (xs ++ [])) c.new-2.ensures.items in
    all_written (written.text_written (λ v. Some v.items) c.from_writer-writer.result)
    (written.text_written (λ v. Some v.items) c.write_results.new.writer)
    c.in-Ok.text.items (csv_text c.args.standing.now) start
    c.in_ok-write_results.ensures.text c.in-Ok.ensures.ok
