-- What is told of a race beside the table.
use Rattle.std.specs.Prelude.{ℕ, List, [], map, slice_index_or}
use Rattle.regatta_terms.specs.declared.sail.Sail.{Sail}
use Rattle.regatta_scores.specs.declared.details.SheetGroup.{SheetGroup}
use Rattle.regatta_scores.specs.Details.{PlacedGroup}
use Rattle.regatta_board.specs.declared.details.SailGroup.{SailGroup}

-- the boat with this number in the entry list, from 0
abbrev pub boat_at : List Sail → ℕ → Sail
boat_at sails number = slice_index_or sails number []

-- a group of boats, as code has it
abbrev pub sail_group : PlacedGroup Sail → SailGroup
sail_group group = record { place = group.place; sharing = group.sharing; boats = group.boats }

-- a group of a sheet, with the boats of these numbers
abbrev pub named_group : List Sail → SheetGroup → SailGroup
named_group sails group = record {
  place = group.place;
  sharing = group.sharing;
  boats = map (boat_at sails) group.boats;
}
