-- Worked examples of standings, each computed from its journal.
use Rattle.std.specs.Prelude.{◌≡◌, refl, ℕ, ◌+◌, Bool, true, false, List, [], ◌∷◌, ◌++◌, Some, None}
use Rattle.regatta_terms.specs.Rules.{RulesParts}
use Rattle.regatta_terms.specs.declared.rules.Absent.TheVariants.{A52}
use Rattle.regatta_terms.specs.declared.sail.Sail.{Sail}
use Rattle.regatta_terms.specs.declared.command.Code.{Code}
use Rattle.regatta_terms.specs.declared.command.Code.TheVariants as code
use Rattle.regatta_terms.specs.declared.command.Redress.TheVariants.{AllRaces}
use Rattle.regatta_terms.specs.declared.command.Role.{Role}
use Rattle.regatta_terms.specs.declared.command.Role.TheVariants.{Scorer, Jury}
use Rattle.regatta_terms.specs.declared.command.Command.{Command}
use Rattle.regatta_terms.specs.declared.command.Command.TheVariants.{Enter, Finish, Tie, Before}
use Rattle.regatta_terms.specs.declared.command.Command.TheVariants.{Strike, Mark, Redress, Score}
use Rattle.regatta_scores.specs.declared.table.Abbrev.{Abbrev}
use Rattle.regatta_scores.specs.declared.table.Abbrev.TheVariants as abbreviation
use Rattle.regatta_scores.specs.declared.table.Cell.{Cell}
use Rattle.regatta_scores.specs.declared.table.Row.{Row}
use Rattle.regatta_scores.specs.declared.table.Standing.{Standing}
use Rattle.regatta_scores.specs.Journal.{Journal}
use Rattle.regatta_scores.specs.Standing.{standing}

-- sails of one letter
abbrev pub a : Sail
a = 65 ∷ []

abbrev pub b : Sail
b = 66 ∷ []

abbrev pub c : Sail
c = 67 ∷ []

abbrev pub d : Sail
d = 68 ∷ []

-- a command of the scorer
abbrev pub scorer : Command → Role × Command
scorer command = (Scorer, command)

-- a command of the protest committee
abbrev pub jury : Command → Role × Command
jury command = (Jury, command)

-- the commands as one seat's entries, numbered from `nth`
abbrev pub entries_from : ℕ → List (Role × Command) → Journal
entries_from nth [] = []
entries_from nth (given ∷ rest) =
    record { seat = 1; nth = nth; role = given.0; command = given.1 }
    ∷ entries_from (nth + 1) rest

-- the commands as one seat's entries, numbered from 1
abbrev pub journal : List (Role × Command) → Journal
journal given = entries_from 1 given

-- rules by which one score is excluded from two races on
abbrev pub default_rules : RulesParts
default_rules = record { absent = A52; scp = None; thresholds = 2 ∷ []; handicap = false }

-- rules by which no score is excluded
abbrev pub no_exclusions : RulesParts
no_exclusions = record { absent = A52; scp = None; thresholds = []; handicap = false }

-- points in a cell without an abbreviation
abbrev pub plain : ℕ → Cell
plain points = record { points = points; mark = None; dropped = false }

-- points in a cell with an abbreviation
abbrev pub marked : ℕ → Abbrev → Cell
marked points mark = record { points = points; mark = Some mark; dropped = false }

-- points in a cell with a code
abbrev pub coded : ℕ → Code → Cell
coded points code = marked points (abbreviation.Code code)

-- points in a cell that are excluded
abbrev pub excluded : ℕ → Cell
excluded points = record { points = points; mark = None; dropped = true }

abbrev pub row : Sail → ℕ → Bool → ℕ → List Cell → Row
row sail rank tied net cells =
    record { sail = sail; rank = rank; tied = tied; net = net; cells = cells }

abbrev pub table : List ℕ → List Row → Standing
table races rows = record { races = races; rows = rows }

-- the rules of a series, its commands, and the table that was worked out by hand
pub record WorkedCase : Type 0 where
  pub rules : RulesParts
  pub entries : Journal
  pub by_hand : Standing

abbrev pub worked : RulesParts → List (Role × Command) → Standing → WorkedCase
worked rules given by_hand =
    record { rules = rules; entries = journal given; by_hand = by_hand }

-- the table that was worked out by hand is the standing
abbrev pub IsStanding : WorkedCase → Type 0
IsStanding example = standing example.rules example.entries ≡ example.by_hand

-- ---- one race

-- of three boats A and B are tied for first
abbrev pub tie_for_first : List (Role × Command)
tie_for_first =
    scorer (Enter a) ∷ scorer (Enter b) ∷ scorer (Enter c)
    ∷ scorer (Finish 1 a) ∷ scorer (Tie 1 b a) ∷ scorer (Finish 1 c) ∷ scorer (Score 1) ∷ []

abbrev pub tied_boats_share_a_rank : WorkedCase
tied_boats_share_a_rank =
    worked default_rules tie_for_first
    (table (1 ∷ []) (row a 1 true 15 (plain 15 ∷ []) ∷ row b 1 true 15 (plain 15 ∷ [])
    ∷ row c 3 false 30 (plain 30 ∷ []) ∷ []))

pub tied_boats_share_a_rank_is : IsStanding tied_boats_share_a_rank
tied_boats_share_a_rank_is = refl

-- when A is then disqualified, she falls behind (A5.2, A6.1)
abbrev pub disqualified_boats_fall_behind : WorkedCase
disqualified_boats_fall_behind =
    worked default_rules (tie_for_first ++ jury (Mark 1 a code.Dsq) ∷ [])
    (table (1 ∷ []) (row b 1 false 10 (plain 10 ∷ []) ∷ row c 2 false 20 (plain 20 ∷ [])
    ∷ row a 3 false 40 (coded 40 code.Dsq ∷ []) ∷ []))

pub disqualified_boats_fall_behind_is : IsStanding disqualified_boats_fall_behind
disqualified_boats_fall_behind_is = refl

-- two boats finish and the third doesn't
abbrev pub two_of_three : List (Role × Command)
two_of_three =
    scorer (Enter a) ∷ scorer (Enter b) ∷ scorer (Enter c)
    ∷ scorer (Finish 1 a) ∷ scorer (Finish 1 b) ∷ scorer (Mark 1 c code.Dnf) ∷ scorer (Score 1) ∷ []

abbrev pub boats_that_did_not_finish : WorkedCase
boats_that_did_not_finish =
    worked default_rules two_of_three
    (table (1 ∷ []) (row a 1 false 10 (plain 10 ∷ []) ∷ row b 2 false 20 (plain 20 ∷ [])
    ∷ row c 3 false 40 (coded 40 code.Dnf ∷ []) ∷ []))

pub boats_that_did_not_finish_is : IsStanding boats_that_did_not_finish
boats_that_did_not_finish_is = refl

-- a late entry is scored DNC in the race, and every code costs a point more (A2.2, A5.2)
abbrev pub late_entries_change_earlier_races : WorkedCase
late_entries_change_earlier_races =
    worked default_rules (two_of_three ++ scorer (Enter d) ∷ [])
    (table (1 ∷ []) (row a 1 false 10 (plain 10 ∷ []) ∷ row b 2 false 20 (plain 20 ∷ [])
    ∷ row c 3 true 50 (coded 50 code.Dnf ∷ [])
    ∷ row d 3 true 50 (coded 50 code.Dnc ∷ []) ∷ []))

pub late_entries_change_earlier_races_is : IsStanding late_entries_change_earlier_races
late_entries_change_earlier_races_is = refl

-- ---- two races, and redress as an average (A9)

-- A wins race 1, and B race 2, in which A doesn't sail
abbrev pub two_races : List (Role × Command)
two_races =
    scorer (Enter a) ∷ scorer (Enter b) ∷ scorer (Finish 1 a) ∷ scorer (Finish 1 b)
    ∷ scorer (Finish 2 b) ∷ scorer (Score 1) ∷ scorer (Score 2) ∷ []

-- A has her average in race 2; in race 1 she is taken out of the order and put back ahead of B
abbrev pub average_in_the_second : List (Role × Command)
average_in_the_second =
    two_races ++ jury (Redress 2 a AllRaces) ∷ scorer (Strike 1 a) ∷ scorer (Before 1 a b) ∷ []

-- her average is her score in race 1, which is the earlier of equal ones, so it is excluded (A2.1)
abbrev pub earlier_of_equal_scores_excluded : WorkedCase
earlier_of_equal_scores_excluded =
    worked default_rules average_in_the_second
    (table (1 ∷ 2 ∷ []) (row a 1 false 10 (excluded 10 ∷ marked 10 abbreviation.Rdg ∷ [])
    ∷ row b 2 false 10 (excluded 20 ∷ plain 10 ∷ []) ∷ []))

pub earlier_of_equal_scores_excluded_is : IsStanding earlier_of_equal_scores_excluded
earlier_of_equal_scores_excluded_is = refl

-- A's average in race 1 is over race 2 alone, in which a late entry costs her a point
abbrev pub late_entries_change_averages : WorkedCase
late_entries_change_averages =
    worked no_exclusions (two_races ++ jury (Redress 1 a AllRaces) ∷ scorer (Enter c) ∷ [])
    (table (1 ∷ 2 ∷ []) (row b 1 false 30 (plain 20 ∷ plain 10 ∷ [])
    ∷ row a 2 true 80 (marked 40 abbreviation.Rdg ∷ coded 40 code.Dnc ∷ [])
    ∷ row c 2 true 80 (coded 40 code.Dnc ∷ coded 40 code.Dnc ∷ []) ∷ []))

pub late_entries_change_averages_is : IsStanding late_entries_change_averages
late_entries_change_averages_is = refl
