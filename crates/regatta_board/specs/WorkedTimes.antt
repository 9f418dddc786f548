-- Worked examples of runs by corrected times (RRS A3, A7): the replies to their commands.
use Rattle.std.specs.Prelude.{◌≡◌, refl, false, true, List, [], ◌∷◌, ◌++◌, Some, Err}
use Rattle.regatta_terms.specs.declared.command.Role.{Role}
use Rattle.regatta_terms.specs.declared.command.Command.{Command}
use Rattle.regatta_terms.specs.declared.command.Command.TheVariants.{Enter, Finish, Tie, Before}
use Rattle.regatta_terms.specs.declared.command.Command.TheVariants.{Time}
use Rattle.regatta_terms.specs.declared.reply.Refusal.TheVariants.{WrongSystem, AlreadyPlaced}
use Rattle.regatta_terms.specs.declared.reply.Refusal.TheVariants.{NotEntered, NotYours}
use Rattle.regatta_scores.specs.Standing.{standing}
use Rattle.regatta_scores.specs.WorkedStandings.{a, b, c, d, scorer, jury, journal, default_rules}
use Rattle.regatta_scores.specs.WorkedStandings.{tie_for_first, plain, row, table}
use Rattle.regatta_scores.specs.WorkedTimes.{by_times, timed_again}
use Rattle.regatta_board.specs.Refusals.{limits, is_lawful, refused_from}
use Rattle.regatta_board.specs.Runs.{replies, journal_after}
use Rattle.regatta_board.specs.Worked.{ok, ok_alone}

-- three boats are timed; one is struck and timed again. Then come a place by finishing, and times
-- for a boat that has one, for one that isn't entered, and from the protest committee
abbrev pub times_of_three : List (Role × Command)
times_of_three =
    timed_again
    ++ scorer (Finish 1 b) ∷ scorer (Time 1 b 1) ∷ scorer (Time 1 d 1) ∷ jury (Time 1 b 1)
    ∷ jury (Finish 1 b) ∷ []

pub times_of_three_replies :
    replies by_times [] times_of_three
    ≡ ok 1 1 false 0
    ∷ ok 2 1 true 0
    ∷ ok 3 1 true 0
    ∷ ok 4 1 true 0
    ∷ ok 5 1 true 0
    ∷ ok 6 1 true 0
    ∷ ok_alone 7
    ∷ ok 8 3 false 40
    ∷ ok 9 1 false 10
    ∷ Err WrongSystem
    ∷ Err AlreadyPlaced
    ∷ Err NotEntered
    ∷ Err NotYours
    ∷ Err NotYours
    ∷ []
times_of_three_replies = refl

-- the standing after these commands
pub times_of_three_table :
    standing by_times (journal_after by_times [] times_of_three)
    ≡ table (1 ∷ []) (row a 1 false 10 (plain 10 ∷ []) ∷ row b 2 false 20 (plain 20 ∷ [])
    ∷ row c 3 false 30 (plain 30 ∷ []) ∷ [])
times_of_three_table = refl

-- the journal of the run is lawful
pub times_of_three_lawful : is_lawful limits by_times (journal timed_again) ≡ true
times_of_three_lawful = refl

-- a time is refused without handicap
pub time_without_handicap :
    replies default_rules [] (scorer (Enter a) ∷ scorer (Time 1 a 5) ∷ [])
    ≡ ok 1 1 false 0 ∷ Err WrongSystem ∷ []
time_without_handicap = refl

-- each place by finishing is refused under handicap, whatever else would refuse it
pub places_under_handicap :
    replies by_times []
    (scorer (Finish 1 a) ∷ scorer (Tie 1 a b) ∷ scorer (Before 1 a b) ∷ [])
    ≡ Err WrongSystem ∷ Err WrongSystem ∷ Err WrongSystem ∷ []
places_under_handicap = refl

-- a journal of the other system is refused at its first entry of that system
pub finishes_refused : refused_from limits by_times [] (journal tie_for_first)
    ≡ Some (4, WrongSystem)
finishes_refused = refl
