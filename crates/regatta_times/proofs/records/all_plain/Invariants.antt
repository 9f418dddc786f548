use Rattle.std.proofs.Common.{◌≡◌, map, take}
use Rattle.regatta_tables.specs.EntryLists.{without_spaces}
use Rattle.regatta_times.proofs.records.all_plain.Given as goal

abbrev pub invariant-loop-field : goal.invariant-loop-field
invariant-loop-field l = l.texts.items
    ≡ map (λ field. without_spaces field.now) (take l.field-index l.fields)
