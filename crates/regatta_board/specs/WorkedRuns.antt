-- Worked examples: the replies to the commands of a run. The standings after the runs are worked
-- beside the definitions of scoring.
use Rattle.std.specs.Prelude.{◌≡◌, refl, false, true, List, [], ◌∷◌, ◌++◌, Err}
use Rattle.regatta_terms.specs.declared.command.Code.TheVariants as code
use Rattle.regatta_terms.specs.declared.command.Redress.TheVariants.{AllRaces}
use Rattle.regatta_terms.specs.declared.command.Role.{Role}
use Rattle.regatta_terms.specs.declared.command.Role.TheVariants.{Finish}
use Rattle.regatta_terms.specs.declared.command.Command.{Command}
use Rattle.regatta_terms.specs.declared.command.Command.TheVariants.{Enter, Mark, Redress}
use Rattle.regatta_terms.specs.declared.reply.Refusal.TheVariants.{NotYours, Decided}
use Rattle.regatta_scores.specs.WorkedStandings.{a, b, c, scorer, jury, journal}
use Rattle.regatta_scores.specs.WorkedStandings.{default_rules, no_exclusions, tie_for_first}
use Rattle.regatta_scores.specs.WorkedStandings.{two_races, average_in_the_second}
use Rattle.regatta_board.specs.Runs.{replies, journal_after}
use Rattle.regatta_board.specs.Worked.{ok, ok_alone}

-- A and B share the first place (A7); A is disqualified, and the others move up (A6.1). Then a role
-- sends a command that isn't its own, and the race committee sends a code for A, whose
-- disqualification stays
abbrev pub disqualified_from_a_tie : List (Role × Command)
disqualified_from_a_tie =
    tie_for_first
    ++ jury (Mark 1 a code.Dsq) ∷ (Finish, Mark 1 b code.Dsq) ∷ scorer (Mark 1 a code.Ret) ∷ []

-- each answer is by the standing after its command: nothing counts before SCORE
pub disqualified_from_a_tie_replies :
    replies default_rules [] disqualified_from_a_tie
    ≡ ok 1 1 false 0
    ∷ ok 2 1 true 0
    ∷ ok 3 1 true 0
    ∷ ok 4 1 true 0
    ∷ ok 5 1 true 0
    ∷ ok 6 1 true 0
    ∷ ok_alone 7
    ∷ ok 8 3 false 40
    ∷ Err NotYours
    ∷ Err Decided
    ∷ []
disqualified_from_a_tie_replies = refl

-- the refused commands leave no trace
pub refused_leave_no_trace :
    journal_after default_rules [] disqualified_from_a_tie
    ≡ journal (tie_for_first ++ jury (Mark 1 a code.Dsq) ∷ [])
refused_leave_no_trace = refl

-- an average as redress depends on her other races (A9)
pub average_follows_replies :
    replies no_exclusions [] average_in_the_second
    ≡ ok 1 1 false 0
    ∷ ok 2 1 true 0
    ∷ ok 3 1 true 0
    ∷ ok 4 1 true 0
    ∷ ok 5 1 true 0
    ∷ ok_alone 6
    ∷ ok_alone 7
    ∷ ok 8 1 false 20
    ∷ ok 9 2 false 60
    ∷ ok 10 1 false 20
    ∷ []
average_follows_replies = refl

-- a late entry is scored DNC in the earlier races (A2.2, A5.2), and one average is redress (A9)
pub late_entry_with_average_replies :
    replies no_exclusions [] (two_races ++ jury (Redress 1 a AllRaces) ∷ scorer (Enter c) ∷ [])
    ≡ ok 1 1 false 0
    ∷ ok 2 1 true 0
    ∷ ok 3 1 true 0
    ∷ ok 4 1 true 0
    ∷ ok 5 1 true 0
    ∷ ok_alone 6
    ∷ ok_alone 7
    ∷ ok 8 2 false 60
    ∷ ok 9 2 true 80
    ∷ []
late_entry_with_average_replies = refl
