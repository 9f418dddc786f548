-- What a decision comes to in one race. The race is read without the redress that decisions gave,
-- and with the code DNF for TLE and NSC: so no decision depends on another's points. Points are in
-- tenths, unless they are called whole points.
use Rattle.std.specs.Prelude.{ℕ, ◌+◌, ◌-◌, ◌*◌, Bool, Option, Some, None, nat_lt}
use Rattle.std.specs.Prelude.{Result, Ok, Err, if◌then◌else◌}
use Rattle.std.specs.List.{filter_map, last_or}
use Rattle.regatta_terms.specs.Rules.{RulesParts}
use Rattle.regatta_scores.specs.Details.{placed_groups}
use Rattle.regatta_scores.specs.RacePoints.{Race, dnf, penalty_points, plain}
use Rattle.regatta_rulings.specs.declared.decision.Bar.{Bar}
use Rattle.regatta_rulings.specs.declared.decision.Bar.TheVariants.{NobodyFinished}
use Rattle.regatta_rulings.specs.declared.decision.Races.{Races}
use Rattle.regatta_rulings.specs.declared.decision.Ruling.{Ruling}
use Rattle.regatta_rulings.specs.declared.decision.Ruling.TheVariants.{Penalty, TimeLimit}
use Rattle.regatta_rulings.specs.declared.decision.Ruling.TheVariants.{NotSailed, Average, Duty}
use Rattle.regatta_rulings.specs.declared.decision.Ruling.TheVariants.{Reinstate}
use Rattle.regatta_rulings.specs.declared.points.Figures.{Figures}
use Rattle.regatta_rulings.specs.Shares.{limit_points, limited, penalised}

-- the points for a place that is shared by this number of boats, if there are any (A4, A7)
abbrev pub shared_points : ℕ → ℕ → Option ℕ
shared_points place sharing =
    if nat_lt 0 sharing then Some (10 * place + 5 * (sharing - 1)) else None

-- the points of the last place: those of the last group in which a boat finished, whatever penalties
-- or redress change them for the boat there; none if nobody finished
abbrev pub last_points : {B : Type 0} → Race B → Option ℕ
last_points race =
    last_or None (filter_map (λ group. shared_points group.place group.sharing) (placed_groups race))

-- these points with her penalties, up to the DNF score; or that nobody finished
abbrev pub limited_by : ℕ → ℕ → Option ℕ → Result ℕ Bar
limited_by dnf penalty None = Err NobodyFinished
limited_by dnf penalty (Some points) = Ok (limited dnf points penalty)

-- what a decision comes to, by the race's DNF score in whole points, the points of the last place,
-- her score without the decision, and what her penalties add in whole points. Averages are over
-- other races: `averaged` is that of these
abbrev pub points_by : (Races → Result ℕ Bar) → ℕ → Option ℕ → ℕ → ℕ → Ruling → Result ℕ Bar
points_by averaged dnf last plain penalty (Penalty name amount) = Ok (penalised dnf plain amount)
points_by averaged dnf last plain penalty (TimeLimit limit) =
    limited_by dnf penalty (limit_points last limit)
points_by averaged dnf last plain penalty NotSailed = Ok (10 * dnf)
points_by averaged dnf last plain penalty (Average races) = averaged races
points_by averaged dnf last plain penalty (Duty races) = averaged races
points_by averaged dnf last plain penalty Reinstate = Ok plain

-- what a decision about a boat comes to in this race: a penalty makes her score without it worse
-- (44.3(c)); a time limit has points after those of the last place, or points of its own; NSC has
-- those of DNF (A5); an average is over her other races (A9); and a boat that is reinstated has her
-- score
abbrev pub ruling_points : {B : Type 0} → (B → B → Bool) → RulesParts → Race B → (Races → Result ℕ Bar)
    → B → Ruling → Result ℕ Bar
ruling_points same rules race averaged boat ruling =
    points_by averaged (dnf same rules race) (last_points race) (plain same rules race boat)
    (penalty_points rules (dnf same rules race) (race.held boat)) ruling

-- the figures of a boat in a race
abbrev pub figures_in : {B : Type 0} → (B → B → Bool) → RulesParts → Race B → B → Figures
figures_in same rules race boat = record {
  dnf = dnf same rules race;
  last = last_points race;
  plain = plain same rules race boat;
  penalty = penalty_points rules (dnf same rules race) (race.held boat);
}

-- her score, and what her penalties add in whole points
abbrev pub plain_with_penalty : {B : Type 0} → (B → B → Bool) → RulesParts → Race B → B → ℕ × ℕ
plain_with_penalty same rules race boat =
    (plain same rules race boat, penalty_points rules (dnf same rules race) (race.held boat))

-- the newer of two points, if there are some
abbrev pub newer : {X : Type 0} → Option X → Option X → Option X
newer (Some x) old = Some x
newer None old = old
