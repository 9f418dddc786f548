-- The best of a boat's scores.
use Rattle.std.specs.Prelude.{ℕ, List, [], ◌∷◌, Option, None, Some, nat_lt, if◌then◌else◌}

-- the first of these scores, if there is one: the best, if they come from best to worst
abbrev pub first_of : List ℕ → Option ℕ
first_of [] = None
first_of (x ∷ xs) = Some x

-- the score, or the other if that is lower
abbrev pub or_lower : ℕ → Option ℕ → Option ℕ
or_lower score None = Some score
or_lower score (Some other) = if nat_lt other score then Some other else Some score
