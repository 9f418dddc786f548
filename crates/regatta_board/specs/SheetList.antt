-- The sheets of all races, where those that were never changed share a blank one.
use Rattle.std.specs.Prelude.{◌≡◌, List, map, All, Option, unwrap_or}
use Rattle.regatta_scores.specs.Sheet.{Sheet, boats}

-- the sheet of each race: its own, or else the blank one
abbrev pub sheets_of : Sheet → List (Option Sheet) → List Sheet
sheets_of blank changed = map (λ sheet. unwrap_or sheet blank) changed

-- all sheets have as many boats as the blank one: each boat is scored in each race (RRS A2.2)
abbrev pub AreAlike : Sheet → List Sheet → Type 0
AreAlike blank sheets = All (λ sheet. boats sheet ≡ boats blank) sheets
