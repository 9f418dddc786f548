-- A journal read without the redress that decisions gave, and what its decisions come to there.
use Rattle.std.specs.Prelude.{ℕ, Bool, true, false, not, ◌&&◌, ◌||◌, nat_eq, List, [], ◌∷◌, filter, map}
use Rattle.std.specs.Prelude.{filter_map, count_by, Option, Some, None, is_some, unwrap_or}
use Rattle.std.specs.Prelude.{Result, Ok, Err, if◌then◌else◌}
use Rattle.std.specs.List.{after_last, find, last_or}
use Rattle.std.specs.Option.{option_and_then, option_map, option_map_or}
use Rattle.regatta_terms.specs.Codes.{is_jury_code}
use Rattle.regatta_terms.specs.Effects as effects
use Rattle.regatta_terms.specs.Entries.{EntryParts}
use Rattle.regatta_terms.specs.Roles.{is_jury}
use Rattle.regatta_terms.specs.Rules.{RulesParts}
use Rattle.regatta_terms.specs.declared.command.Code.TheVariants.{Dnf}
use Rattle.regatta_terms.specs.declared.command.PenaltyKind.TheVariants.{Zfp, Scp}
use Rattle.regatta_terms.specs.declared.command.Redress as redress_type
use Rattle.regatta_terms.specs.declared.command.Redress.TheVariants as redress
use Rattle.regatta_terms.specs.declared.command.Role.{Role}
use Rattle.regatta_terms.specs.declared.sail.Sail.{Sail}
use Rattle.regatta_scores.specs.declared.sheet.Held.{Held}
use Rattle.regatta_scores.specs.Journal.{Journal, act_in, code_marked, decision_on, entered}
use Rattle.regatta_scores.specs.Journal.{is_clear, is_penalty, order, redress_given, same_sail, scored}
use Rattle.regatta_scores.specs.Outcomes.{redress_by}
use Rattle.regatta_scores.specs.RacePoints.{Race, came, plain, status}
use Rattle.regatta_rulings.specs.declared.averaging.SailedRace.{SailedRace}
use Rattle.regatta_rulings.specs.declared.decision.Bar.{Bar}
use Rattle.regatta_rulings.specs.declared.decision.Decision.{Decision}
use Rattle.regatta_rulings.specs.declared.decision.Races.{Races}
use Rattle.regatta_rulings.specs.declared.decision.Ruling.{Ruling}
use Rattle.regatta_rulings.specs.declared.decision.Ruling.TheVariants.{Penalty, TimeLimit}
use Rattle.regatta_rulings.specs.declared.decision.Ruling.TheVariants.{NotSailed, Average, Duty}
use Rattle.regatta_rulings.specs.declared.decision.Ruling.TheVariants.{Reinstate}
use Rattle.regatta_rulings.specs.Averages.{average_of}
use Rattle.regatta_rulings.specs.RulingPoints.{ruling_points}

-- ---- what was given

-- what was decided on a boat in a race, with the role that did it
abbrev pub Given : Type 0
Given = Role × effects.Decision

-- that of an entry, if it decides anything about her there
abbrev pub given_by : ℕ → Sail → EntryParts → Option Given
given_by race boat entry =
    option_map (λ decision. (entry.role, decision))
    (option_and_then (decision_on boat) (act_in race (effects.effect entry.command)))

-- what is in force: what was given after the last Clear
abbrev pub in_force : List Given → List Given
in_force all = after_last (λ given. is_clear given.1) all

-- that of a journal
abbrev pub given : Journal → ℕ → Sail → List Given
given journal race boat = in_force (filter_map (given_by race boat) journal)

-- what she holds by what is in force: the last code (A10), how many penalties of each kind (30.2,
-- 44.3), the last redress (A9)
abbrev pub held_by : List Given → Held
held_by all = record {
  code = last_or None (filter_map (λ given. code_marked given.1) all);
  zfp = count_by (λ given. is_penalty Zfp given.1) all;
  scp = count_by (λ given. is_penalty Scp given.1) all;
  redress = last_or None (filter_map (λ given. redress_given given.1) all);
}

-- whether the committee gave it: a code of RRS A5.1, or a penalty of another role than the jury's
abbrev pub committee_gives : Role → effects.Decision → Bool
committee_gives role (effects.Marks code) = not (is_jury_code code)
committee_gives role (effects.Penalises kind) = not (is_jury role)
committee_gives role (effects.Redresses redress) = false
committee_gives role effects.Clears = false

abbrev pub is_of_committee : Given → Bool
is_of_committee given = committee_gives given.0 given.1

-- what she would hold in the race if the jury had given her nothing: the last code of the committee,
-- which a DSQ may have replaced, and its penalties
abbrev pub of_committee : List Given → List Given
of_committee all = filter is_of_committee all

-- ---- a race without its decisions

-- the decision about a boat in a race
abbrev pub ruling_on : List Decision → ℕ → Sail → Option Ruling
ruling_on decisions race boat =
    option_map (λ decision. decision.ruling)
    (find (λ decision. nat_eq decision.race race && same_sail decision.sail boat) decisions)

-- what she holds there without the points of this decision, if it is one: no redress; DNF for TLE
-- and NSC, so that each boat behind her moves up (A6.1); or what the committee gave
abbrev pub without_points : Held → Held → Option Ruling → Held
without_points held committee None = held
without_points held committee (Some (Penalty name amount)) = record held { redress = None }
without_points held committee (Some (TimeLimit limit)) =
    record held { code = Some Dnf; redress = None }
without_points held committee (Some NotSailed) = record held { code = Some Dnf; redress = None }
without_points held committee (Some (Average races)) = record held { redress = None }
without_points held committee (Some (Duty races)) = record held { redress = None }
without_points held committee (Some Reinstate) = committee

-- whether a decision is an average
abbrev pub is_average : Ruling → Bool
is_average (Penalty name amount) = false
is_average (TimeLimit limit) = false
is_average NotSailed = false
is_average (Average races) = true
is_average (Duty races) = true
is_average Reinstate = false

-- whether redress is an average over all other races, or over those before (A9(a), A9(b))
abbrev pub is_averaged : Option redress_type.Redress → Bool
is_averaged None = false
is_averaged (Some (redress.Points award)) = false
is_averaged (Some redress.AllRaces) = true
is_averaged (Some redress.RacesBefore) = true

-- points, if there are any; else a score
abbrev pub points_or : ℕ → Result ℕ Bar → ℕ
points_or score (Ok points) = points
points_or score (Err bar) = score

module _ (rules : RulesParts) (decisions : List Decision) (journal : Journal) where
  -- what a boat holds in a race without the points of a decision
  abbrev pub held_without : ℕ → Sail → Held
  held_without race boat =
      without_points (held_by (given journal race boat))
      (held_by (of_committee (given journal race boat))) (ruling_on decisions race boat)

  -- the race without its decisions
  abbrev pub race_without : ℕ → Race Sail
  race_without race = record {
    entered = entered journal;
    order = order rules journal race;
    held = held_without race;
  }

  -- her points there by a decision that is no average; else by the redress that she holds (A9(c)),
  -- or her score
  abbrev pub points_there : ℕ → Sail → ℕ
  points_there race boat =
      let score = (redress_by (plain same_sail rules (race_without race) boat)
      (held_without race boat).redress).0 in
      option_map_or (λ ruling. points_or score
      (ruling_points same_sail rules (race_without race) (λ races. Ok score) boat ruling))
      (ruling_on decisions race boat) score

  -- the race, as an average of this boat looks at it
  abbrev pub sailed_race : Sail → ℕ → SailedRace
  sailed_race boat race = record {
    race = race;
    came = came (status same_sail (race_without race) boat);
    averaged = option_map_or is_average (ruling_on decisions race boat) false
        || is_averaged (held_without race boat).redress;
    points = points_there race boat;
  }

  -- what a decision comes to, or why it comes to nothing
  abbrev pub points_of : Decision → Result ℕ Bar
  points_of decision =
      ruling_points same_sail rules (race_without decision.race)
      (λ races. average_of races decision.race (map (sailed_race decision.sail) (scored journal)))
      decision.sail decision.ruling
