use Rattle.std.proofs.Common.{◌≡◌, map, take}
use Rattle.regatta_times.specs.Columns.{title_of}
use Rattle.regatta_times.proofs.records.all_titles.Given as goal

abbrev pub invariant-loop-field : goal.invariant-loop-field
invariant-loop-field l = l.texts.items
    ≡ map (λ field. title_of field.now) (take l.field-index l.fields)
