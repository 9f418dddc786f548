-- Worked bars, by computation, on the journal of `WorkedPoints`.
use Rattle.std.specs.Prelude.{◌≡◌, refl, ℕ, [], ◌∷◌, ◌++◌, codes, Option, Some, None}
use Rattle.regatta_terms.specs.declared.command.Code.TheVariants as code
use Rattle.regatta_terms.specs.declared.command.Command.TheVariants.{Mark, Redress}
use Rattle.regatta_terms.specs.declared.command.Redress.TheVariants as redress
use Rattle.regatta_terms.specs.declared.command.Role.TheVariants as role
use Rattle.regatta_terms.specs.declared.sail.Sail.{Sail}
use Rattle.regatta_scores.specs.Journal.{Journal}
use Rattle.regatta_rulings.specs.declared.decision.Amount.TheVariants.{Percent}
use Rattle.regatta_rulings.specs.declared.decision.Bar.{Bar}
use Rattle.regatta_rulings.specs.declared.decision.Bar.TheVariants.{Twice, NotEntered, Disqualified}
use Rattle.regatta_rulings.specs.declared.decision.Bar.TheVariants.{Averaged, Coded, Uncounted}
use Rattle.regatta_rulings.specs.declared.decision.Limit.TheVariants.{AfterLast}
use Rattle.regatta_rulings.specs.declared.decision.PenaltyName.TheVariants.{Prp}
use Rattle.regatta_rulings.specs.declared.decision.Ruling.{Ruling}
use Rattle.regatta_rulings.specs.declared.decision.Ruling.TheVariants.{NotSailed, Penalty}
use Rattle.regatta_rulings.specs.declared.decision.Ruling.TheVariants.{Reinstate, TimeLimit}
use Rattle.regatta_rulings.specs.Bars.{bar_of}
use Rattle.regatta_rulings.specs.WorkedPoints.{a, b, c, d, e, decides, entry, journal}

-- in race 2 C is OCS, D did not finish, and E has an average; race 3 doesn't count
abbrev pub later : Journal
later = journal ++ entry role.Finish (Mark 2 c code.Ocs) ∷ entry role.Finish (Mark 2 d code.Dnf)
    ∷ entry role.Jury (Redress 2 e redress.AllRaces) ∷ []

-- what bars a decision that comes first
abbrev pub bar : ℕ → Sail → Ruling → Option Bar
bar race sail ruling = bar_of later [] (decides race sail ruling)

abbrev pub prp : Ruling
prp = Penalty Prp (Percent 30)

pub not_barred : bar 1 a prp ≡ None
not_barred = refl

-- B holds points, as a decision gives
pub points_dont_bar : bar 1 b prp ≡ None
points_dont_bar = refl

pub second_is_barred :
    bar_of later (decides 1 a NotSailed ∷ []) (decides 1 a prp) ≡ Some Twice
second_is_barred = refl

pub other_races_dont_matter : bar_of later (decides 2 a NotSailed ∷ []) (decides 1 a prp) ≡ None
other_races_dont_matter = refl

pub stranger : bar 1 (codes "Z") prp ≡ Some NotEntered
stranger = refl

pub disqualified : bar 1 e prp ≡ Some Disqualified
disqualified = refl

pub disqualified_boats_are_reinstated : bar 1 e Reinstate ≡ None
disqualified_boats_are_reinstated = refl

pub averages_are_cleared_first : bar 2 e prp ≡ Some Averaged
averages_are_cleared_first = refl

pub other_codes_stay : bar 2 c (TimeLimit (AfterLast 2)) ≡ Some Coded
other_codes_stay = refl

pub dnf_may_be_out : bar 2 d (TimeLimit (AfterLast 2)) ≡ None
dnf_may_be_out = refl

-- a penalty may be added to any code
pub penalties_of_codes : bar 2 c prp ≡ None
penalties_of_codes = refl

pub race_is_open : bar 3 a prp ≡ Some Uncounted
race_is_open = refl

-- NSC gives no points
pub open_race_without_points : bar 3 a NotSailed ≡ None
open_race_without_points = refl
