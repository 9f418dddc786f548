-- Laws of redress (RRS A6.2, A9).
use Rattle.std.specs.Prelude.{◌≡◌, ◌≢◌, ℕ, ◌+◌, ◌*◌, ◌<◌, ◌≤◌, List, [], ◌∷◌, ◌++◌, filter, sum_by}
use Rattle.std.specs.Prelude.{length, All}
use Rattle.regatta_terms.specs.Entries.{EntryParts}
use Rattle.regatta_terms.specs.Rules.{RulesParts}
use Rattle.regatta_terms.specs.declared.sail.Sail.{Sail}
use Rattle.regatta_terms.specs.declared.command.Redress as redress_type
use Rattle.regatta_terms.specs.declared.command.Command.TheVariants.{Redress}
use Rattle.regatta_scores.specs.declared.boats.RaceScore.{RaceScore}
use Rattle.regatta_scores.specs.Journal.{Journal}
use Rattle.regatta_scores.specs.Averages.{is_own, average_over}
use Rattle.regatta_scores.specs.Standing.{line}

-- Redress of one boat changes no other boat's points in any race (A6.2), nor which of them are
-- excluded.
abbrev pub RedressLeavesOthers : Type 0
RedressLeavesOthers = (rules : RulesParts) (journal : Journal) (entry : EntryParts)
    (race : ℕ) (boat other : Sail) (redress : redress_type.Redress) →
    entry.command ≡ Redress race boat redress → other ≢ boat →
    line rules (journal ++ entry ∷ []) other ≡ line rules journal other

-- the races that an average counts: those in which no average replaces her points (A9)
abbrev pub counted : List RaceScore → List RaceScore
counted races = filter (λ score. is_own score.averaged) races

-- if an average counts the race, her points in it are from low to high (A9)
abbrev pub IsWithin : ℕ → ℕ → RaceScore → Type 0
IsWithin low high score = (low ≤ score.points) × (score.points ≤ high)

-- An average is at least the lowest and at most the highest of the points that it counts (A9).
abbrev pub AveragesLieBetween : Type 0
AveragesLieBetween = (races : List RaceScore) (plain low high : ℕ) →
    0 < length (counted races) → All (IsWithin low high) (counted races) →
    (low ≤ average_over races plain) × (average_over races plain ≤ high)

-- An average is rounded to the nearest tenth: it is at most half a tenth above the true average,
-- and less than half a tenth below (A9).
abbrev pub AveragesAreNearest : Type 0
AveragesAreNearest = (races : List RaceScore) (plain : ℕ) → 0 < length (counted races) →
    let n = length (counted races) in
    let s = sum_by (λ score. score.points) (counted races) in
    (2 * n * average_over races plain ≤ 2 * s + n) × (2 * s < 2 * n * average_over races plain + n)
