use Rattle.std.proofs.Common.{◌≡◌, take}
use Rattle.std.specs.List.{fold}
use Rattle.regatta_talk.specs.HeardLines.{heard_with}
use Rattle.regatta_talk.proofs.cutter.Cutter.hear.Given as goal

-- the bytes so far
abbrev pub invariant-loop-byte : goal.invariant-loop-byte
invariant-loop-byte l =
    l.self-inside.heard.items ≡ fold heard_with l.fn.self (take l.byte-index l.bytes)
