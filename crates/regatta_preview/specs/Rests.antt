-- The lines that are left after one.
use Rattle.std.specs.Prelude.{ℕ, List, []}
use Rattle.regatta_talk.specs.declared.asked.Next.{Next}
use Rattle.regatta_talk.specs.declared.asked.Next.TheVariants.{Go, End}

-- the lines after a line: none if it ends the session
abbrev pub lines_after : Next → List (List ℕ) → List (List ℕ)
lines_after Go rest = rest
lines_after End rest = []
