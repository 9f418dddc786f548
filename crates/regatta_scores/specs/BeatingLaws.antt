-- Laws of who beats whom (RRS A2.1, A8).
use Rattle.std.specs.Prelude.{◌≡◌, ℕ, ◌<◌, true, List, ◌∷◌, ◌++◌, nat_lt, Contains, IsPermutation}
use Rattle.regatta_scores.specs.Ranking.{BoatScores, net, best_to_worst, beats, rank}

-- A boat with a lower series score than another's is ranked ahead of her (A2.1).
abbrev pub LowestScoreWins : Type 0
LowestScoreWins = (lines : List BoatScores) (a b : BoatScores) → Contains lines a →
    Contains lines b → net a < net b → rank lines a < rank lines b

-- A boat beats another if and only if her rank is lower (A8).
abbrev pub BeatingIsRanking : Type 0
BeatingIsRanking = (lines : List BoatScores) (a b : BoatScores) → Contains lines a →
    Contains lines b → beats a b ≡ nat_lt (rank lines a) (rank lines b)

-- A rank doesn't depend on the order in which boats were entered (A8).
abbrev pub EntryOrderDoesntCount : Type 0
EntryOrderDoesntCount = (lines others : List BoatScores) (a : BoatScores) →
    IsPermutation lines others → rank lines a ≡ rank others a

-- Of two boats that A8.1 leaves tied, the one with the better score in the last race in which their
-- scores differ beats the other (A8.2).
abbrev pub LastDifferenceDecides : Type 0
LastDifferenceDecides = (a b : BoatScores) (earlier others later : List ℕ) (x y : ℕ) →
    net a ≡ net b → best_to_worst a ≡ best_to_worst b → a.points ≡ earlier ++ x ∷ later →
    b.points ≡ others ++ y ∷ later → x < y → beats a b ≡ true
