-- What came of a boat in a race, and her score: what her line and her cell take of it.
use Rattle.std.specs.Prelude.{ℕ, Bool, List, map, Option, Some, None}
use Rattle.regatta_terms.specs.Rules.{RulesParts}
use Rattle.regatta_terms.specs.declared.command.Redress.{Redress}
use Rattle.regatta_terms.specs.declared.command.Redress.TheVariants as redress
use Rattle.regatta_terms.specs.declared.sail.Sail.{Sail}
use Rattle.regatta_scores.specs.declared.boats.Averaged.{Averaged}
use Rattle.regatta_scores.specs.declared.boats.Averaged.TheVariants.{OverNone, OverAll, OverBefore}
use Rattle.regatta_scores.specs.declared.boats.RaceScore.{RaceScore}
use Rattle.regatta_scores.specs.declared.outcomes.Outcome.{Outcome}
use Rattle.regatta_scores.specs.Journal.{Journal, same_sail, scored}
use Rattle.regatta_scores.specs.Marks.{mark_by}
use Rattle.regatta_scores.specs.Order.{stands_in}
use Rattle.regatta_scores.specs.RacePoints.{Race, status_by, is_dne, plain, journal_race}

-- her points by her redress: those given (A9(c)), or else those before redress; and over which
-- other races an average replaces them (A9(a), (b))
abbrev pub redress_by : ℕ → Option Redress → ℕ × Averaged
redress_by plain None = (plain, OverNone)
redress_by plain (Some (redress.Points award)) = (award, OverNone)
redress_by plain (Some redress.AllRaces) = (plain, OverAll)
redress_by plain (Some redress.RacesBefore) = (plain, OverBefore)

-- what came of this boat in the race: her points before redress (A4 to A7, 30.2, 44.3(c)), what she
-- holds (A9, A10), and whether she is in the finishing order (A3); `same` is whether two boats are
-- one
abbrev pub outcome : {B : Type 0} → (B → B → Bool) → RulesParts → Race B → B → Outcome
outcome same rules race boat = record {
  plain = plain same rules race boat;
  held = race.held boat;
  placed = stands_in same boat race.order;
}

-- her score, by her outcome: her points, and whether an average replaces them (A9); whether it
-- is a DNE, which is never excluded (90.3(b)); and the abbreviation in her cell (A10)
abbrev pub score_of : Outcome → RaceScore
score_of outcome = record {
  points = (redress_by outcome.plain outcome.held.redress).0;
  averaged = (redress_by outcome.plain outcome.held.redress).1;
  dne = is_dne outcome.held.code;
  mark = mark_by outcome.held.redress (status_by outcome.held.code outcome.placed)
      outcome.held.zfp outcome.held.scp;
}

-- her score in each scored race, by the journal
abbrev pub scores : RulesParts → Journal → Sail → List RaceScore
scores rules journal boat =
    map (λ race. score_of (outcome same_sail rules (journal_race rules journal race) boat))
    (scored journal)
