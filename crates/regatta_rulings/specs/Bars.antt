-- What a decision is barred by: another decision, the entry list, what its boat holds, or a race that
-- doesn't count.
use Rattle.std.specs.Prelude.{◌≡◌, ℕ, Bool, true, false, not, ◌&&◌, nat_eq, List, Option, Some, None}
use Rattle.std.specs.Prelude.{if◌then◌else◌}
use Rattle.std.specs.List.{list_any}
use Rattle.regatta_terms.specs.Codes.{is_jury_code}
use Rattle.regatta_terms.specs.declared.command.Code.{Code}
use Rattle.regatta_terms.specs.declared.command.Code.TheVariants.{Dnc, Dns, Ocs, Ufd, Bfd, Dnf, Ret}
use Rattle.regatta_terms.specs.declared.command.Code.TheVariants.{Dsq, Dne}
use Rattle.regatta_terms.specs.declared.sail.Sail.{Sail}
use Rattle.regatta_scores.specs.declared.sheet.Held.{Held}
use Rattle.regatta_scores.specs.Journal.{Journal, held, is_scored, same_sail}
use Rattle.regatta_board.specs.Refusals.{is_entered}
use Rattle.regatta_rulings.specs.declared.decision.Bar.{Bar}
use Rattle.regatta_rulings.specs.declared.decision.Bar.TheVariants.{Twice, NotEntered, Disqualified}
use Rattle.regatta_rulings.specs.declared.decision.Bar.TheVariants.{Averaged, Coded, Uncounted}
use Rattle.regatta_rulings.specs.declared.decision.Decision.{Decision}
use Rattle.regatta_rulings.specs.declared.decision.Ruling.{Ruling}
use Rattle.regatta_rulings.specs.declared.decision.Ruling.TheVariants.{Penalty, TimeLimit}
use Rattle.regatta_rulings.specs.declared.decision.Ruling.TheVariants.{NotSailed, Average, Duty}
use Rattle.regatta_rulings.specs.declared.decision.Ruling.TheVariants.{Reinstate}
use Rattle.regatta_rulings.specs.RulingLines.{held_after, held_with, is_out, lines_of}
use Rattle.regatta_rulings.specs.Undecided.{given, held_by, is_averaged}

-- whether a decision is about this boat in this race
abbrev pub is_about : ℕ → Sail → Decision → Bool
is_about race boat decision = nat_eq decision.race race && same_sail decision.sail boat

-- ---- what a ruling gives

-- whether it gives the boat something: a boat that is reinstated is given nothing
abbrev pub gives : Ruling → Bool
gives (Penalty name amount) = true
gives (TimeLimit limit) = true
gives NotSailed = true
gives (Average races) = true
gives (Duty races) = true
gives Reinstate = false

-- whether it gives points: NSC gives a code alone
abbrev pub gives_points : Ruling → Bool
gives_points (Penalty name amount) = true
gives_points (TimeLimit limit) = true
gives_points NotSailed = false
gives_points (Average races) = true
gives_points (Duty races) = true
gives_points Reinstate = false

-- ---- what a boat holds

-- DSQ or DNE
abbrev pub is_disqualified : Option Code → Bool
is_disqualified None = false
is_disqualified (Some code) = is_jury_code code

-- whether a code is DNF
abbrev pub is_dnf : Code → Bool
is_dnf Dnc = false
is_dnf Dns = false
is_dnf Ocs = false
is_dnf Ufd = false
is_dnf Bfd = false
is_dnf Dnf = true
is_dnf Ret = false
is_dnf Dsq = false
is_dnf Dne = false

-- a code, and another than DNF
abbrev pub is_coded : Option Code → Bool
is_coded None = false
is_coded (Some code) = not (is_dnf code)

-- ---- bars

-- the first that applies
abbrev pub first_bar : Bool → Bool → Bool → Bool → Option Bar
first_bar disqualified averaged coded uncounted =
    if disqualified then Some Disqualified
    else if averaged then Some Averaged
    else if coded then Some Coded
    else if uncounted then Some Uncounted else None

-- what bars a ruling of a boat that holds this, in a race that counts or doesn't. A boat that holds
-- DSQ, DNE, or redress as ALL or PRIOR is given nothing. TLE and NSC need a boat without a code, or
-- with DNF. Points need a race that counts
abbrev pub bar_by : Held → Bool → Ruling → Option Bar
bar_by held scored ruling =
    first_bar (gives ruling && is_disqualified held.code) (gives ruling && is_averaged held.redress)
    (is_out ruling && is_coded held.code) (gives_points ruling && not scored)

-- what bars a decision, given those before it: a boat has at most one decision in a race, and is
-- entered
abbrev pub bar_of : Journal → List Decision → Decision → Option Bar
bar_of journal earlier decision =
    if list_any (is_about decision.race decision.sail) earlier then Some Twice
    else if not (is_entered journal decision.sail) then Some NotEntered
    else bar_by (held journal decision.race decision.sail) (is_scored journal decision.race)
    decision.ruling

-- ---- laws

-- What was given to a boat in a race, with its roles, is what she holds there.
abbrev pub GivenIsHeld : Type 0
GivenIsHeld = (journal : Journal) (race : ℕ) (boat : Sail)
    → held_by (given journal race boat) ≡ held journal race boat

-- The lines of a decision that isn't barred lead to what its boat is to hold.
abbrev pub LinesOfDecisions : Type 0
LinesOfDecisions = (journal : Journal) (earlier : List Decision) (decision : Decision) (points : ℕ)
    → bar_of journal earlier decision ≡ None
    → held_after (held journal decision.race decision.sail)
    (lines_of decision.ruling points (given journal decision.race decision.sail))
    ≡ held_with decision.ruling points (given journal decision.race decision.sail)
