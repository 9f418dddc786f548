-- Worked decisions on a journal, by computation. Points are tenths.
use Rattle.std.specs.Prelude.{◌≡◌, refl, ℕ, false, List, [], ◌∷◌, codes, None, Result, Ok, Err}
use Rattle.regatta_terms.specs.Entries.{EntryParts}
use Rattle.regatta_terms.specs.Rules.{RulesParts}
use Rattle.regatta_terms.specs.declared.command.Code.TheVariants as code
use Rattle.regatta_terms.specs.declared.command.Command.{Command}
use Rattle.regatta_terms.specs.declared.command.Command.TheVariants.{Enter, Finish, Mark, Redress}
use Rattle.regatta_terms.specs.declared.command.Command.TheVariants.{Score}
use Rattle.regatta_terms.specs.declared.command.Redress.TheVariants as redress
use Rattle.regatta_terms.specs.declared.command.Role.{Role}
use Rattle.regatta_terms.specs.declared.command.Role.TheVariants as role
use Rattle.regatta_terms.specs.declared.rules.Absent.TheVariants.{A52}
use Rattle.regatta_terms.specs.declared.sail.Sail.{Sail}
use Rattle.regatta_scores.specs.Journal.{Journal}
use Rattle.regatta_rulings.specs.declared.decision.Amount.TheVariants.{Percent}
use Rattle.regatta_rulings.specs.declared.decision.Bar.{Bar}
use Rattle.regatta_rulings.specs.declared.decision.Bar.TheVariants.{NoRace}
use Rattle.regatta_rulings.specs.declared.decision.Decision.{Decision}
use Rattle.regatta_rulings.specs.declared.decision.Limit.TheVariants.{AfterLast}
use Rattle.regatta_rulings.specs.declared.decision.PenaltyName.TheVariants.{Prp}
use Rattle.regatta_rulings.specs.declared.decision.Races.TheVariants.{Earlier, Others}
use Rattle.regatta_rulings.specs.declared.decision.Ruling.{Ruling}
use Rattle.regatta_rulings.specs.declared.decision.Ruling.TheVariants.{Average, NotSailed, Penalty}
use Rattle.regatta_rulings.specs.declared.decision.Ruling.TheVariants.{Reinstate, TimeLimit}
use Rattle.regatta_rulings.specs.Undecided.{points_of}

-- an entry of this role
abbrev pub entry : Role → Command → EntryParts
entry role command = record { seat = 1; nth = 1; role = role; command = command }

-- boats
abbrev pub a : Sail
a = codes "A"

abbrev pub b : Sail
b = codes "B"

abbrev pub c : Sail
c = codes "C"

abbrev pub d : Sail
d = codes "D"

abbrev pub e : Sail
e = codes "E"

abbrev pub rules : RulesParts
rules = record { absent = A52; scp = None; thresholds = []; handicap = false }

-- Five boats are entered. In race 1 four finish, B has the points of an older decision, and E didn't
-- start and was then disqualified. In race 2 B finishes first, and A second.
abbrev pub journal : Journal
journal =
    entry role.Scorer (Enter a) ∷ entry role.Scorer (Enter b) ∷ entry role.Scorer (Enter c)
    ∷ entry role.Scorer (Enter d) ∷ entry role.Scorer (Enter e)
    ∷ entry role.Finish (Finish 1 a) ∷ entry role.Finish (Finish 1 b)
    ∷ entry role.Finish (Finish 1 c) ∷ entry role.Finish (Finish 1 d)
    ∷ entry role.Jury (Redress 1 b (redress.Points 999))
    ∷ entry role.Scorer (Mark 1 e code.Dns) ∷ entry role.Jury (Mark 1 e code.Dsq)
    ∷ entry role.Finish (Finish 2 b) ∷ entry role.Finish (Finish 2 a)
    ∷ entry role.Scorer (Score 1) ∷ entry role.Scorer (Score 2) ∷ []

-- one decision
abbrev pub decides : ℕ → Sail → Ruling → Decision
decides race sail ruling = record { race = race; sail = sail; ruling = ruling }

-- what a decision comes to, if it is the only one, or one of these
abbrev pub alone : Decision → Result ℕ Bar
alone decision = points_of rules (decision ∷ []) journal decision

abbrev pub among : List Decision → Decision → Result ℕ Bar
among others decision = points_of rules (decision ∷ others) journal decision

-- 30% of a DNF score of 6 are 1.8, so 2; B has 2.0 without the older points
pub older_points_dont_count : alone (decides 1 b (Penalty Prp (Percent 30))) ≡ Ok 40
older_points_dont_count = refl

-- without D the last is C, with 3.0
pub after_the_others : alone (decides 1 d (TimeLimit (AfterLast 2))) ≡ Ok 50
after_the_others = refl

-- if C didn't sail the course, D moves up to 3.0, and the last is D (A6.1)
pub boats_move_up : among (decides 1 c NotSailed ∷ []) (decides 1 d (Penalty Prp (Percent 30))) ≡ Ok 50
boats_move_up = refl

pub scores_dnf : alone (decides 1 c NotSailed) ≡ Ok 60
scores_dnf = refl

-- the DNS that the DSQ replaced stays
pub disqualification_goes : alone (decides 1 e Reinstate) ≡ Ok 60
disqualification_goes = refl

-- B's average counts the points of her decision in race 1, which are 4.0
pub averages_count_decisions :
    among (decides 1 b (Penalty Prp (Percent 30)) ∷ []) (decides 2 b (Average Others)) ≡ Ok 40
averages_count_decisions = refl

pub nothing_before_the_first : alone (decides 1 a (Average Earlier)) ≡ Err NoRace
nothing_before_the_first = refl
