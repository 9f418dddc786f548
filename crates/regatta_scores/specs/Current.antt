-- The lines of all boats, after new ones replace some of them.
use Rattle.std.specs.Prelude.{◌≡◌, ℕ, ◌+◌, ◌<◌, ◌||◌, Bool, false, List, [], ◌∷◌, length, map}
use Rattle.std.specs.Prelude.{nat_eq, nat_lt, slice_index_or, slice_set, All, if◌then◌else◌}
use Rattle.regatta_scores.specs.Ranking.{BoatScores}
use Rattle.regatta_scores.specs.Entrants.{no_line}
use Rattle.regatta_scores.specs.KeptRanking.{is_new, line_of}
use Rattle.regatta_scores.specs.declared.current.NewLine.{NewLine}

-- the lines, after new ones replace those of their boats
abbrev pub with_changed : List BoatScores → List NewLine → List BoatScores
with_changed old [] = old
with_changed old (new ∷ news) = with_changed (slice_set old new.boat new.line) news

-- each new line is that of a boat: her number is below the number of boats
abbrev pub AreWithin : ℕ → List NewLine → Type 0
AreWithin boats news = All (λ new. new.boat < boats) news

-- the new lines come in the order of their boats' numbers, so each boat has one at most
abbrev pub AreInOrder : List NewLine → Type 0
AreInOrder news =
    (j k : ℕ) (d : NewLine) → j < k → k < length news
    → (slice_index_or news j d).boat < (slice_index_or news k d).boat

-- the new lines are those of different boats, in the order of their numbers
abbrev pub AreOfBoats : ℕ → List NewLine → Type 0
AreOfBoats boats news = AreWithin boats news × AreInOrder news

-- whether one of the new lines is that of the boat with this number
abbrev pub has_new : List NewLine → ℕ → Bool
has_new [] boat = false
has_new (new ∷ news) boat = nat_eq new.boat boat || has_new news boat

-- the lines of all boats, and which of them are new
pub record Lines : Type 0 where
  pub lines : List BoatScores
  pub new : List Bool

-- the default new line
abbrev pub no_new : NewLine
no_new = record { boat = 0; line = no_line }

-- each boat's line: the new one at her position, or the old one if there is none
abbrev pub looked_up : List NewLine → List BoatScores → List ℕ → List BoatScores
looked_up news [] positions = []
looked_up news (old ∷ olds) [] = []
looked_up news (old ∷ olds) (at ∷ positions) =
    (if nat_lt at (length news) then (slice_index_or news at no_new).line else old)
    ∷ looked_up news olds positions

-- whether there is a new line at each boat's position
abbrev pub flags : List NewLine → List ℕ → List Bool
flags news positions = map (λ at. nat_lt at (length news)) positions

-- the positions, after each boat that has a new line gets that line's position; the first new line
-- is at `at`
abbrev pub with_positions : List ℕ → ℕ → List NewLine → List ℕ
with_positions positions at [] = positions
with_positions positions at (new ∷ news) =
    with_positions (slice_set positions new.boat at) (at + 1) news

-- a boat whose line isn't new has her old one
abbrev pub AreStill : List BoatScores → Lines → Type 0
AreStill old current =
    (boat : ℕ) → boat < length old → is_new current.new boat ≡ false
    → line_of current.lines boat ≡ line_of old boat

-- a boat's line is flagged as new exactly if one of the new lines is hers
abbrev pub AreFlagged : List NewLine → Lines → Type 0
AreFlagged news current =
    (boat : ℕ) → boat < length current.new → is_new current.new boat ≡ has_new news boat
