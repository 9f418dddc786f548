use Rattle.std.proofs.Common.{◌≡◌, true, take}
use Rattle.std.specs.List.{list_all}
use Rattle.regatta_terms.specs.Words.{is_space}
use Rattle.regatta_tables.proofs.entries.is_blank.Given as goal

-- the fields so far are empty or spaces
abbrev pub invariant-loop-field : goal.invariant-loop-field
invariant-loop-field l = list_all (λ field. list_all is_space field.now)
    (take l.field-index l.fields) ≡ true
