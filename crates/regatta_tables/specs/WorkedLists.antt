-- Worked examples of entry lists, by computation from their bytes.
use Rattle.std.specs.Prelude.{◌≡◌, refl, ℕ, List, [], ◌∷◌, ◌++◌, flat_map, Ok, Err, codes, decimal}
use Rattle.std.specs.List.{range_with_len}
use Rattle.std.specs.Fmt.{digits}
use Rattle.csv.specs.Machine.{next_record}
use Rattle.csv.specs.Reading.{records_from, strip_bom}
use Rattle.regatta_tables.specs.declared.entries.EntriesFault.TheVariants.{NoColumn, BadRow}
use Rattle.regatta_tables.specs.declared.entries.EntriesFault.TheVariants.{BadSail, Twice, TooMany}
use Rattle.regatta_tables.specs.EntryLists.{entries_of_text}
use Rattle.regatta_tables.specs.Examples.{Gives}

-- small letters are raised, spaces don't matter, and a field in quotes may hold a comma; text that
-- isn't UTF-8 is no fault
pub boats : Gives entries_of_text
    ((codes "Boat,Sail,Club\nWind,gbr 12,X\n\"A, B\",NED7", Ok (codes "GBR12" ∷ codes "NED7" ∷ []))
    ∷ (codes "Boat,Sail\n" ++ 0xFF ∷ codes ",A", Ok (codes "A" ∷ [])) ∷ [])
unfolding next_record records_from strip_bom
boats = refl

-- the first column of sails counts, and one byte order mark is dropped
pub headers : Gives entries_of_text
    ((codes "Sail", Ok []) ∷ (codes "Sail No", Ok [])
    ∷ (codes "Boat, sail number ,SailNo\nX,A,B", Ok (codes "A" ∷ []))
    ∷ (0xEF ∷ 0xBB ∷ 0xBF ∷ codes "Sail\nA", Ok (codes "A" ∷ []))
    ∷ (0xEF ∷ 0xBB ∷ 0xBF ∷ 0xEF ∷ 0xBB ∷ 0xBF ∷ codes "Sail\nA", Err NoColumn)
    ∷ ([], Err NoColumn) ∷ (codes "Boat\nX", Err NoColumn) ∷ [])
unfolding next_record records_from strip_bom
headers = refl

-- a line without a byte is no record; records of spaces, quotes and commas are skipped, and count
pub blank_records : Gives entries_of_text
    ((codes "Boat,Sail\n\n  \n\"\"\n , \nX,A\nY,a", Err (Twice 6))
    ∷ (codes "Sail,Club\n,\nA_B,X", Err (BadSail 3)) ∷ [])
unfolding next_record records_from strip_bom
blank_records = refl

-- the first fault is the one of the earlier row
pub faults : Gives entries_of_text
    ((codes "Boat,Sail\nWind", Err (BadRow 2)) ∷ (codes "Sail\nA_B", Err (BadSail 2))
    ∷ (codes "Boat,Sail\nWind, ", Err (BadSail 2)) ∷ (codes "Sail\nA\na", Err (Twice 3))
    ∷ (codes "Sail\nA\na\nA_B", Err (Twice 3)) ∷ [])
unfolding next_record records_from strip_bom
faults = refl

-- a list of the sails 1 to n
abbrev numbered : ℕ → List ℕ
numbered n = codes "Sail" ++ flat_map (λ k. 10 ∷ decimal k) (range_with_len 1 n)

pub one_boat_too_many : entries_of_text (numbered 501) ≡ Err (TooMany 502)
unfolding next_record records_from strip_bom digits
one_boat_too_many = refl
