use Rattle.std.proofs.Common.{◌≡◌, map, take}
use Rattle.regatta_office.specs.CutNotes.{shown_byte}
use Rattle.regatta_office.proofs.cut_note.shown.Given as goal

-- the bytes so far
abbrev pub invariant-loop-byte : goal.invariant-loop-byte
invariant-loop-byte l = l.line.items ≡ map shown_byte (take l.byte-index l.bytes)
