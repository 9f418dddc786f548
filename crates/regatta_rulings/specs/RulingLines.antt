-- The lines that a journal lacks for a decision: each is a role with what it decides about the boat
-- in the race.
use Rattle.std.specs.Prelude.{◌≡◌, ℕ, Bool, true, false, not, ◌&&◌, nat_eq, List, [], ◌∷◌, ◌++◌}
use Rattle.std.specs.Prelude.{filter, fold, Option, Some, None, is_none, is_some, if◌then◌else◌, map}
use Rattle.std.specs.List.{cons_option, filter_map, last_or, list_all}
use Rattle.std.specs.Option.{option_map}
use Rattle.regatta_terms.specs.Effects as effects
use Rattle.regatta_terms.specs.declared.command.Code.{Code}
use Rattle.regatta_terms.specs.declared.command.Code.TheVariants.{Dnf}
use Rattle.regatta_terms.specs.declared.command.Redress as redress_type
use Rattle.regatta_terms.specs.declared.command.Redress.TheVariants as redress
use Rattle.regatta_terms.specs.declared.command.Role.{Role}
use Rattle.regatta_terms.specs.declared.command.Role.TheVariants.{Jury, Scorer}
use Rattle.regatta_scores.specs.declared.sheet.Held.{Held}
use Rattle.regatta_scores.specs.Changes.{with_decision}
use Rattle.regatta_scores.specs.Journal.{code_marked}
use Rattle.regatta_rulings.specs.declared.decision.Ruling.{Ruling}
use Rattle.regatta_rulings.specs.declared.decision.Ruling.TheVariants.{Penalty, TimeLimit}
use Rattle.regatta_rulings.specs.declared.decision.Ruling.TheVariants.{NotSailed, Average, Duty}
use Rattle.regatta_rulings.specs.declared.decision.Ruling.TheVariants.{Reinstate}
use Rattle.regatta_rulings.specs.Undecided.{Given, held_by, is_of_committee, of_committee}
use Rattle.regatta_rulings.specs.Undecided.{without_points}

-- whether it is a penalty
abbrev pub penalises : effects.Decision → Bool
penalises (effects.Marks code) = false
penalises (effects.Penalises kind) = true
penalises (effects.Redresses redress) = false
penalises effects.Clears = false

-- the code that is given, with the role that gave it
abbrev pub code_given : Given → Option (Role × Code)
code_given given = option_map (λ code. (given.0, code)) (code_marked given.1)

abbrev pub last_code : List Given → Option (Role × Code)
last_code all = last_or None (filter_map code_given all)

-- the lines that give back what CLEAR takes with a redress: the last code, and each penalty, in the
-- role that gave it
abbrev pub restored : List Given → List Given
restored all =
    cons_option (option_map (λ code. (code.0, effects.Marks code.1)) (last_code all))
    (filter (λ given. penalises given.1) all)

-- what stays of what was given: of a boat that is reinstated, what the committee gave
abbrev pub staying : Ruling → List Given → List Given
staying (Penalty name amount) all = all
staying (TimeLimit limit) all = all
staying NotSailed all = all
staying (Average races) all = all
staying (Duty races) all = all
staying Reinstate all = of_committee all

-- whether CLEAR comes first: redress goes, and all that the jury gave to a boat that is reinstated
abbrev pub is_cleared : Ruling → List Given → Bool
is_cleared (Penalty name amount) all = is_some (held_by all).redress
is_cleared (TimeLimit limit) all = is_some (held_by all).redress
is_cleared NotSailed all = is_some (held_by all).redress
is_cleared (Average races) all = is_some (held_by all).redress
is_cleared (Duty races) all = is_some (held_by all).redress
is_cleared Reinstate all = not (list_all is_of_committee all)

-- whether a decision marks its boat as DNF
abbrev pub is_out : Ruling → Bool
is_out (Penalty name amount) = false
is_out (TimeLimit limit) = true
is_out NotSailed = true
is_out (Average races) = false
is_out (Duty races) = false
is_out Reinstate = false

-- the redress that a decision of these points gives, if it gives any
abbrev pub redress_by : Ruling → ℕ → Option redress_type.Redress
redress_by (Penalty name amount) points = Some (redress.Points points)
redress_by (TimeLimit limit) points = Some (redress.Points points)
redress_by NotSailed points = None
redress_by (Average races) points = Some (redress.Points points)
redress_by (Duty races) points = Some (redress.Points points)
redress_by Reinstate points = None

-- ---- the lines

abbrev pub clearing : Bool → List Given → List Given
clearing true staying = (Jury, effects.Clears) ∷ restored staying
clearing false staying = []

abbrev pub marking : Bool → List Given
marking true = (Scorer, effects.Marks Dnf) ∷ []
marking false = []

abbrev pub redressing : Option redress_type.Redress → List Given
redressing None = []
redressing (Some redress) = (Jury, effects.Redresses redress) ∷ []

-- CLEAR and what stays, if something goes; DNF, of TLE and NSC, if she has no code; the points
abbrev pub lines_of : Ruling → ℕ → List Given → List Given
lines_of ruling points all =
    clearing (is_cleared ruling all) (staying ruling all)
    ++ (marking (is_out ruling && is_none (held_by all).code)
    ++ redressing (redress_by ruling points))

-- ---- what they come to

-- what she holds after these lines
abbrev pub held_after : Held → List Given → Held
held_after held lines = fold with_decision held (map (λ given. given.1) lines)

-- what she is to hold: what she holds without the points of the decision, and its points
abbrev pub held_with : Ruling → ℕ → List Given → Held
held_with ruling points all =
    record (without_points (held_by all) (held_by (of_committee all)) (Some ruling)) {
      redress = redress_by ruling points;
    }

-- whether what she holds bars nothing: TLE and NSC need no code, or DNF
abbrev pub MayBeOut : Ruling → Held → Type 0
MayBeOut ruling held = is_out ruling ≡ true → is_none held.code ≡ false → held.code ≡ Some Dnf

-- the lines lead there
abbrev pub LinesLeadThere : Type 0
LinesLeadThere = (ruling : Ruling) (points : ℕ) (all : List Given) → MayBeOut ruling (held_by all)
    → held_after (held_by all) (lines_of ruling points all) ≡ held_with ruling points all
