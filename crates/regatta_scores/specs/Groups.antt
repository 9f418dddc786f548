-- A finishing order as one list of boats and the positions where its groups end.
use Rattle.std.specs.Prelude.{◌≡◌, ℕ, ◌+◌, ◌-◌, ◌≤◌, nat_eq, List, [], ◌∷◌, slice_index_or}
use Rattle.std.specs.Prelude.{if◌then◌else◌}
use Rattle.std.specs.List.{between}

-- the groups of boats that end at these positions, if the first begins at `start` (A3, A7)
abbrev pub cut : List ℕ → ℕ → List ℕ → List (List ℕ)
cut boats start [] = []
cut boats start (end ∷ ends) = between start end boats ∷ cut boats end ends

-- the ends rise, from the start to the number of boats
abbrev pub Rises : ℕ → List ℕ → ℕ → Type 0
Rises start [] last = start ≡ last
Rises start (end ∷ ends) last = (start ≤ end) × Rises end ends last

-- where the group at this place begins, if the groups end at these positions: where the one before
-- it ends
abbrev pub begin : List ℕ → ℕ → ℕ
begin ends at = if nat_eq at 0 then 0 else slice_index_or ends (at - 1) 0

-- the end of a group, if the boats from `begin` on come after `ahead` others
abbrev pub moved_end : ℕ → ℕ → ℕ → ℕ
moved_end begin ahead end = end - begin + ahead
