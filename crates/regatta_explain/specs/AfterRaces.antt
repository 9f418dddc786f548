-- The ranks after each race, from those that the board gives.
use Rattle.std.specs.Prelude.{ℕ, List, map}
use Rattle.regatta_board.specs.declared.ranks.BoatRank.{BoatRank}
use Rattle.regatta_explain.specs.declared.parts.RankPart.{RankPart}
use Rattle.regatta_explain.specs.declared.parts.RanksAfter.{RanksAfter}

-- a boat's rank
abbrev pub rank_by : BoatRank → RankPart
rank_by rank = record { sail = rank.sail; rank = rank.rank; tied = rank.tied }

-- the ranks after a race
abbrev pub after_by : ℕ × List BoatRank → RanksAfter
after_by after = record { race = after.0; ranks = map rank_by after.1 }
