-- Laws of scoring penalties (RRS 30.2, 44.3(c)).
use Rattle.std.specs.Prelude.{◌≡◌, ◌≢◌, ℕ, ◌+◌, ◌*◌, ◌<◌, ◌≤◌, max, [], ◌∷◌, ◌++◌}
use Rattle.regatta_terms.specs.Entries.{EntryParts}
use Rattle.regatta_terms.specs.Rules.{RulesParts}
use Rattle.regatta_terms.specs.declared.sail.Sail.{Sail}
use Rattle.regatta_terms.specs.declared.command.PenaltyKind.{PenaltyKind}
use Rattle.regatta_terms.specs.declared.command.Command.TheVariants.{Penalise}
use Rattle.regatta_scores.specs.Journal.{Journal, same_sail}
use Rattle.regatta_scores.specs.RacePoints.{Race, penalty_points, dnf, plain}
use Rattle.regatta_scores.specs.Sheet.{nothing_held}
use Rattle.regatta_scores.specs.Standing.{line}

-- the race without the penalties of all boats
abbrev pub without_penalties : Race Sail → Race Sail
without_penalties race = record {
  entered = race.entered;
  order = race.order;
  held = λ boat. record (race.held boat) { zfp = 0; scp = 0 };
}

-- Penalties make her score worse or leave it. They make it no worse than the race's DNF score, and a
-- score that is no better than that stays. Below the DNF score they cost what they say.
pub record PenaltiesAreCapped (rules : RulesParts) (race : Race Sail) (boat : Sail) : Type 0 where
  pub no_better : plain same_sail rules (without_penalties race) boat
      ≤ plain same_sail rules race boat
  pub capped : plain same_sail rules race boat
      ≤ max (plain same_sail rules (without_penalties race) boat) (10 * dnf same_sail rules race)
  pub worse_stay : 10 * dnf same_sail rules race
      ≤ plain same_sail rules (without_penalties race) boat →
      plain same_sail rules race boat ≡ plain same_sail rules (without_penalties race) boat
  pub amount : plain same_sail rules (without_penalties race) boat
      + 10 * penalty_points rules (dnf same_sail rules race) (race.held boat)
      ≤ 10 * dnf same_sail rules race → plain same_sail rules race boat
      ≡ plain same_sail rules (without_penalties race) boat
      + 10 * penalty_points rules (dnf same_sail rules race) (race.held boat)

-- This holds of each boat in each race (30.2, 44.3(c)).
abbrev pub EveryPenaltyIsCapped : Type 0
EveryPenaltyIsCapped = (rules : RulesParts) (race : Race Sail) (boat : Sail) →
    PenaltiesAreCapped rules race boat

-- A penalty of one boat changes no other boat's points in any race, nor which are excluded.
abbrev pub PenaltiesLeaveOthers : Type 0
PenaltiesLeaveOthers = (rules : RulesParts) (journal : Journal) (entry : EntryParts) (race : ℕ)
    (boat other : Sail) (kind : PenaltyKind) → entry.command ≡ Penalise race boat kind →
    other ≢ boat → line rules (journal ++ entry ∷ []) other ≡ line rules journal other

-- One ZFP adds 20% of the race's DNF score, to the nearest whole point, 0.5 upward (30.2, 44.3(c)).
abbrev pub TwentyPercentIsNearest : Type 0
TwentyPercentIsNearest = (rules : RulesParts) (dnf_score : ℕ) →
    let points = penalty_points rules dnf_score (record nothing_held { zfp = 1 }) in
    (10 * points ≤ 2 * dnf_score + 5) × (2 * dnf_score < 10 * points + 5)
