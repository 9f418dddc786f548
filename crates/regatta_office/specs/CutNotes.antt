-- How bytes that were cut off are shown.
use Rattle.std.specs.Prelude.{ℕ, List, [], ◌∷◌, ◌++◌, map, nat_le, ◌&&◌, if◌then◌else◌}

-- a byte as it is shown: 63, a question mark, unless it is printable ASCII
abbrev pub shown_byte : ℕ → ℕ
shown_byte byte = if nat_le 32 byte && nat_le byte 126 then byte else 63

-- a line that shows these bytes
abbrev pub shown_line : List ℕ → List ℕ
shown_line bytes = map shown_byte bytes ++ 10 ∷ []
