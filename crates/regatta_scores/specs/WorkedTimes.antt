-- Worked examples of finishing orders by corrected times (RRS A3, A7), each computed from its
-- journal.
use Rattle.std.specs.Prelude.{◌≡◌, refl, false, true, List, [], ◌∷◌, ◌++◌, Some, None}
use Rattle.regatta_terms.specs.Rules.{RulesParts}
use Rattle.regatta_terms.specs.declared.rules.Absent.TheVariants.{A52}
use Rattle.regatta_terms.specs.declared.command.Code.TheVariants as code
use Rattle.regatta_terms.specs.declared.command.Role.{Role}
use Rattle.regatta_terms.specs.declared.command.Command.{Command}
use Rattle.regatta_terms.specs.declared.command.Command.TheVariants.{Enter, Finish, Time, Strike}
use Rattle.regatta_terms.specs.declared.command.Command.TheVariants.{Mark, Score}
use Rattle.regatta_scores.specs.declared.sheet.Change.TheVariants.{Timed, Out}
use Rattle.regatta_scores.specs.Changes.{after}
use Rattle.regatta_scores.specs.Journal.{order, time}
use Rattle.regatta_scores.specs.Sheet.{Sheet, empty_sheet}
use Rattle.regatta_scores.specs.WorkedStandings.{a, b, c, scorer, jury, journal, default_rules}
use Rattle.regatta_scores.specs.WorkedStandings.{plain, coded, row, table, WorkedCase, worked}
use Rattle.regatta_scores.specs.WorkedStandings.{IsStanding}

-- rules by which corrected times determine the places
abbrev pub by_times : RulesParts
by_times = record { absent = A52; scp = None; thresholds = 2 ∷ []; handicap = true }

-- three boats: B has the lowest time, A and C have equal ones
abbrev pub three_timed : List (Role × Command)
three_timed =
    scorer (Enter a) ∷ scorer (Enter b) ∷ scorer (Enter c)
    ∷ scorer (Time 1 a 3605) ∷ scorer (Time 1 b 3600) ∷ scorer (Time 1 c 3605)
    ∷ scorer (Score 1) ∷ []

-- ---- equal times

abbrev pub equal_times_share_their_places : WorkedCase
equal_times_share_their_places =
    worked by_times three_timed
    (table (1 ∷ []) (row b 1 false 10 (plain 10 ∷ []) ∷ row a 2 true 25 (plain 25 ∷ [])
    ∷ row c 2 true 25 (plain 25 ∷ []) ∷ []))

pub equal_times_share_their_places_is : IsStanding equal_times_share_their_places
equal_times_share_their_places_is = refl

-- ---- a boat struck, and timed again

abbrev pub struck : List (Role × Command)
struck = three_timed ++ scorer (Strike 1 a) ∷ []

-- a boat that is struck has no time, and is scored DNC
abbrev pub struck_boats_leave_the_order : WorkedCase
struck_boats_leave_the_order =
    worked by_times struck
    (table (1 ∷ []) (row b 1 false 10 (plain 10 ∷ []) ∷ row c 2 false 20 (plain 20 ∷ [])
    ∷ row a 3 false 40 (coded 40 code.Dnc ∷ []) ∷ []))

pub struck_boats_leave_the_order_is : IsStanding struck_boats_leave_the_order
struck_boats_leave_the_order_is = refl

-- A is timed again
abbrev pub timed_again : List (Role × Command)
timed_again = struck ++ scorer (Time 1 a 3599) ∷ []

-- a boat that is timed again is placed by her new time alone
pub boats_timed_again_have_the_new_time : time (journal timed_again) 1 a ≡ Some 3599
boats_timed_again_have_the_new_time = refl

abbrev pub boats_timed_again_are_placed_anew : WorkedCase
boats_timed_again_are_placed_anew =
    worked by_times timed_again
    (table (1 ∷ []) (row a 1 false 10 (plain 10 ∷ []) ∷ row b 2 false 20 (plain 20 ∷ [])
    ∷ row c 3 false 30 (plain 30 ∷ []) ∷ []))

pub boats_timed_again_are_placed_anew_is : IsStanding boats_timed_again_are_placed_anew
boats_timed_again_are_placed_anew_is = refl

-- equal times are in the order in which they were given: A's came last
pub equal_times_are_in_the_order_of_hand_in :
    order by_times (journal (struck ++ scorer (Time 1 a 3605) ∷ [])) 1
    ≡ (b ∷ []) ∷ (c ∷ a ∷ []) ∷ []
equal_times_are_in_the_order_of_hand_in = refl

-- ---- two times after a strike

-- of two times of a boat after a strike the last is in force; no board would accept the second
pub last_time_stands :
    order by_times (journal (struck ++ scorer (Time 1 a 3500) ∷ scorer (Time 1 a 3602) ∷ [])) 1
    ≡ (b ∷ []) ∷ (a ∷ []) ∷ (c ∷ []) ∷ []
last_time_stands = refl

-- a strike after the first of two times ends that one, and leaves the other in force
pub strike_takes_the_first_time :
    order by_times
    (journal (struck ++ scorer (Time 1 a 3500) ∷ scorer (Strike 1 a) ∷ scorer (Time 1 a 3700) ∷ []))
    1 ≡ (b ∷ []) ∷ (c ∷ []) ∷ (a ∷ []) ∷ []
strike_takes_the_first_time = refl

-- ---- a boat with a code

-- a boat with a code keeps her time and leaves her place to the others (A6.1)
pub coded_boats_keep_their_time :
    order by_times (journal (three_timed ++ jury (Mark 1 b code.Dsq) ∷ [])) 1
    ≡ (b ∷ []) ∷ (a ∷ c ∷ []) ∷ []
coded_boats_keep_their_time = refl

abbrev pub coded_boats_with_a_time_leave_their_place : WorkedCase
coded_boats_with_a_time_leave_their_place =
    worked by_times (three_timed ++ jury (Mark 1 b code.Dsq) ∷ [])
    (table (1 ∷ []) (row a 1 true 15 (plain 15 ∷ []) ∷ row c 1 true 15 (plain 15 ∷ [])
    ∷ row b 3 false 40 (coded 40 code.Dsq ∷ []) ∷ []))

pub coded_boats_with_a_time_leave_their_place_is : IsStanding coded_boats_with_a_time_leave_their_place
coded_boats_with_a_time_leave_their_place_is = refl

-- ---- which commands place boats

-- Finish gives no place if corrected times determine the places, and Time gives none if they don't
-- (A3)
pub places_by_finishing_are_none : order by_times (journal (scorer (Finish 1 a) ∷ [])) 1 ≡ []
places_by_finishing_are_none = refl

pub times_are_none_without_handicap : order default_rules (journal three_timed) 1 ≡ []
times_are_none_without_handicap = refl

-- ---- on a sheet

-- boats 0 to 3: boat 1 has the lowest time, boats 0 and 2 have equal ones; boat 3 goes between
abbrev pub timed_sheet : Sheet
timed_sheet =
    after (after (after (after (empty_sheet 4) (Timed 0 3605)) (Timed 1 3600)) (Timed 2 3605))
    (Timed 3 3601)

pub sheets_are_in_order_of_times : timed_sheet.order ≡ (1 ∷ []) ∷ (3 ∷ []) ∷ (0 ∷ 2 ∷ []) ∷ []
sheets_are_in_order_of_times = refl

-- a boat that goes out has no time, and another time places her again
pub out_takes_the_time : (after timed_sheet (Out 0)).seconds
    ≡ None ∷ Some 3600 ∷ Some 3605 ∷ Some 3601 ∷ []
out_takes_the_time = refl

pub sheets_place_boats_anew : (after (after timed_sheet (Out 0)) (Timed 0 3600)).order
    ≡ (1 ∷ 0 ∷ []) ∷ (3 ∷ []) ∷ (2 ∷ []) ∷ []
sheets_place_boats_anew = refl
