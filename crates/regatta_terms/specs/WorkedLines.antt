-- Worked examples of lines, by computation.
use Rattle.std.specs.Prelude.{◌≡◌, refl, List, ℕ, Ok, Err, ◌++◌, ◌∷◌, [], codes, map, replicate}
use Rattle.regatta_terms.specs.declared.command.Command.TheVariants as command
use Rattle.regatta_terms.specs.declared.command.Code.TheVariants.{Dnf}
use Rattle.regatta_terms.specs.declared.command.PenaltyKind.TheVariants.{Scp}
use Rattle.regatta_terms.specs.declared.command.Redress.{Redress}
use Rattle.regatta_terms.specs.declared.command.Redress.TheVariants.{Points, AllRaces, RacesBefore}
use Rattle.regatta_terms.specs.declared.command.Role.TheVariants.{Jury}
use Rattle.regatta_terms.specs.declared.line.Line.{Line}
use Rattle.regatta_terms.specs.declared.line.Line.TheVariants.{Do, SetRole, Rank, Show, Quit}
use Rattle.regatta_terms.specs.declared.line.LineFault.{LineFault}
use Rattle.regatta_terms.specs.declared.line.LineFault.TheVariants.{TooLong, NoSuchWord, WrongCount}
use Rattle.regatta_terms.specs.declared.line.LineFault.TheVariants.{BadSail, BadRace, BadPoints}
use Rattle.regatta_terms.specs.declared.line.LineFault.TheVariants.{BadCode, BadRole, BadSeconds}
use Rattle.regatta_terms.specs.Lines.{line_of, line_of_words, command_of_words}
use Rattle.regatta_terms.specs.Replies.{number_of_fault}

-- a line, followed by n bytes of one kind
abbrev pub line_and : List ℕ → ℕ → ℕ → List ℕ
line_and line n byte = line ++ replicate n byte

-- each of the lines has this fault
abbrev pub Have : LineFault → List (List ℕ) → Type 0
Have fault lines = map line_of lines ≡ map (λ line. Err fault) lines

-- each line asks for what is beside it
abbrev pub Ask : List (List ℕ × Line) → Type 0
Ask rows = map (λ (row : List ℕ × Line). line_of row.0) rows ≡ map (λ row. Ok row.1) rows

-- ---- each fault takes precedence over those below it

-- 80 bytes are allowed, and one CR at the end doesn't count
pub too_long : Have TooLong (line_and (codes "ENTER A") 74 32 ∷ line_and (codes "FOO") 78 32
    ∷ (line_and (codes "ENTER A") 73 32 ++ 13 ∷ 13 ∷ []) ∷ [])
unfolding line_of
too_long = refl

pub no_such_word : Have NoSuchWord ([] ∷ codes "   " ∷ codes "FOO" ∷ codes "FOO 1 A B C" ∷ [])
unfolding line_of line_of_words command_of_words
no_such_word = refl

pub wrong_count : Have WrongCount (codes "SHOW X" ∷ codes "FINISH 0" ∷ codes "TIME 1 A" ∷ [])
unfolding line_of line_of_words command_of_words
wrong_count = refl

-- ---- a fault of an argument comes before those of later arguments

-- only one CR at the end is dropped: the other is part of the sail
pub bad_sail : Have BadSail (codes "ENTER A_B" ∷ codes "MARK 1 A_B ZFP" ∷ codes "TIME 1 A_B X"
    ∷ line_and (codes "ENTER A") 2 13 ∷ [])
unfolding line_of line_of_words command_of_words
bad_sail = refl

pub bad_race : Have BadRace (codes "FINISH 0 A_B" ∷ codes "FINISH 41 A" ∷ codes "SCORE 007" ∷ [])
unfolding line_of line_of_words command_of_words
bad_race = refl

-- a kind of penalty is no code, and a code is no kind
pub bad_code : Have BadCode (codes "MARK 1 A ZFP" ∷ codes "PENALTY 1 A DSQ" ∷ [])
unfolding line_of line_of_words command_of_words
bad_code = refl

pub bad_points : Have BadPoints (map (λ how. codes "REDRESS 1 A " ++ how) (codes "0.9"
    ∷ codes "1000" ∷ codes "7." ∷ codes "7.55" ∷ codes ".5" ∷ codes "FIRST" ∷ []))
unfolding line_of line_of_words command_of_words
bad_points = refl

pub bad_seconds : Have BadSeconds (map (λ seconds. codes "TIME 1 A " ++ seconds)
    (codes "1000000" ∷ codes "0000007" ∷ codes "7.5" ∷ codes "+7" ∷ []))
unfolding line_of line_of_words command_of_words
bad_seconds = refl

pub bad_role : Have BadRole (codes "ROLE KING" ∷ [])
unfolding line_of line_of_words
bad_role = refl

-- ---- what lines ask for

pub small_letters_and_a_return :
    line_of (line_and (codes "finish 07 gbr-1") 1 13) ≡ Ok (Do (command.Finish 7 (codes "GBR-1")))
unfolding line_of line_of_words command_of_words
small_letters_and_a_return = refl

pub commands : Ask ((codes "ENTER A", Do (command.Enter (codes "A")))
    ∷ (codes "TIE 1 B A", Do (command.Tie 1 (codes "B") (codes "A")))
    ∷ (codes "BEFORE 1 A B", Do (command.Before 1 (codes "A") (codes "B")))
    ∷ (codes "STRIKE 1 A", Do (command.Strike 1 (codes "A")))
    ∷ (codes "MARK 1 A DNF", Do (command.Mark 1 (codes "A") Dnf))
    ∷ (codes "PENALTY 1 A SCP", Do (command.Penalise 1 (codes "A") Scp))
    ∷ (codes "CLEAR 40 A", Do (command.Clear 40 (codes "A")))
    ∷ (codes "SCORE 1", Do (command.Score 1))
    ∷ (codes "UNSCORE 1", Do (command.Unscore 1)) ∷ [])
unfolding line_of line_of_words command_of_words
commands = refl

pub other_lines : Ask ((codes "ROLE jury", SetRole Jury) ∷ (codes "RANK A", Rank (codes "A"))
    ∷ (codes "show", Show) ∷ (codes "QUIT", Quit) ∷ [])
unfolding line_of line_of_words
other_lines = refl

-- the line that gives A this redress in race 1
abbrev pub redress : Redress → Line
redress r = Do (command.Redress 1 (codes "A") r)

pub redresses : Ask ((codes "REDRESS 1 A ALL", redress AllRaces)
    ∷ (codes "REDRESS 1 A prior", redress RacesBefore)
    ∷ (codes "REDRESS 1 A 007", redress (Points 70))
    ∷ (codes "REDRESS 1 A 7.5", redress (Points 75))
    ∷ (codes "REDRESS 1 A 1.0", redress (Points 10))
    ∷ (codes "REDRESS 1 A 999.9", redress (Points 9999)) ∷ [])
unfolding line_of line_of_words command_of_words
redresses = refl

-- the line that gives A this corrected time in race 1
abbrev pub time : ℕ → Line
time seconds = Do (command.Time 1 (codes "A") seconds)

pub times : Ask ((codes "TIME 1 A 3605", time 3605) ∷ (codes "TIME 1 A 0", time 0)
    ∷ (codes "TIME 1 A 000007", time 7) ∷ (codes "TIME 1 A 999999", time 999999) ∷ [])
unfolding line_of line_of_words command_of_words
times = refl

pub eighty_bytes : Ask ((line_and (codes "ENTER A") 73 32, Do (command.Enter (codes "A")))
    ∷ (line_and (codes "ENTER A") 73 32 ++ 13 ∷ [], Do (command.Enter (codes "A"))) ∷ [])
unfolding line_of line_of_words command_of_words
eighty_bytes = refl

-- ---- the numbers of faults

pub numbers : map number_of_fault (TooLong ∷ BadRole ∷ BadSeconds ∷ []) ≡ 20 ∷ 27 ∷ 29 ∷ []
numbers = refl
