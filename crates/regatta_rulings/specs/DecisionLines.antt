-- What lines of decisions say: `race 3 GBR 7 PRP 30%  # hearing 4`.
use Rattle.std.specs.Prelude.{ℕ, ◌+◌, ◌-◌, ◌<◌, Bool, true, false, not, ◌&&◌, ◌||◌, ◌==◌, nat_eq}
use Rattle.std.specs.Prelude.{nat_le, nat_lt, List, [], ◌∷◌, length, take, drop, slice_index_or, codes}
use Rattle.std.specs.Prelude.{count_by, Option, Some, None, is_some, Result, Ok, Err, if◌then◌else◌}
use Rattle.std.specs.List.{concat, find, list_all, list_any, position, slice_split}
use Rattle.std.specs.Option.{ok_or, option_and_then}
use Rattle.regatta_terms.specs.Lines.{◌>>=◌}
use Rattle.regatta_terms.specs.Numbers.{number_of, tenths_of, within}
use Rattle.regatta_terms.specs.Rules.{is_comma, numbers_of}
use Rattle.regatta_terms.specs.Sails.{sail_of}
use Rattle.regatta_terms.specs.Words.{says}
use Rattle.regatta_terms.specs.declared.limits.TheConstants.{MAX_RACES}
use Rattle.regatta_terms.specs.declared.sail.Sail.{Sail}
use Rattle.regatta_rulings.specs.declared.decision.Amount.{Amount}
use Rattle.regatta_rulings.specs.declared.decision.Amount.TheVariants.{Percent, Plus}
use Rattle.regatta_rulings.specs.declared.decision.Decision.{Decision}
use Rattle.regatta_rulings.specs.declared.decision.Limit.{Limit}
use Rattle.regatta_rulings.specs.declared.decision.Limit.TheVariants.{AfterLast, Score}
use Rattle.regatta_rulings.specs.declared.decision.PenaltyName.{PenaltyName}
use Rattle.regatta_rulings.specs.declared.decision.PenaltyName.TheVariants.{Dpi, Prp, T1, Scp}
use Rattle.regatta_rulings.specs.declared.decision.Races.{Races}
use Rattle.regatta_rulings.specs.declared.decision.Races.TheVariants.{Chosen, Sailed, Others}
use Rattle.regatta_rulings.specs.declared.decision.Races.TheVariants.{Earlier}
use Rattle.regatta_rulings.specs.declared.decision.Ruling.{Ruling}
use Rattle.regatta_rulings.specs.declared.decision.Ruling.TheVariants.{Penalty, TimeLimit}
use Rattle.regatta_rulings.specs.declared.decision.Ruling.TheVariants.{NotSailed, Average, Duty}
use Rattle.regatta_rulings.specs.declared.decision.Ruling.TheVariants.{Reinstate}
use Rattle.regatta_rulings.specs.declared.fault.DecisionFault.{DecisionFault}
use Rattle.regatta_rulings.specs.declared.fault.DecisionFault.TheVariants.{TooLong, BadForm, BadRace}
use Rattle.regatta_rulings.specs.declared.fault.DecisionFault.TheVariants.{NoKind, BadSail}
use Rattle.regatta_rulings.specs.declared.fault.DecisionFault.TheVariants.{BadArgument, BadPercent}
use Rattle.regatta_rulings.specs.declared.fault.DecisionFault.TheVariants.{TooFew, Itself, BadRaces}
use Rattle.regatta_rulings.specs.declared.kind.Kind.{Kind}
use Rattle.regatta_rulings.specs.declared.kind.Kind.TheVariants as kind
use Rattle.regatta_rulings.specs.DecisionWords.{without_note, words_of}

-- ---- what penalties take

-- the percentage that digits write, from 1 to 100
abbrev pub percent_by : Option ℕ → Result Amount DecisionFault
percent_by None = Err BadArgument
percent_by (Some percent) =
    if nat_le 1 percent && nat_le percent 100 then Ok (Percent percent) else Err BadPercent

-- points of at least 0.1
abbrev pub plus_by : Option ℕ → Result Amount DecisionFault
plus_by None = Err BadArgument
plus_by (Some points) = if nat_le 1 points then Ok (Plus points) else Err TooFew

-- whether a word ends with %
abbrev pub is_percentage : List ℕ → Bool
is_percentage how = nat_lt 0 (length how) && slice_index_or how (length how - 1) 0 == 37

-- `15%`, or points as `2` and `2.5`
abbrev pub amount_of : List ℕ → Result Amount DecisionFault
amount_of how =
    if is_percentage how then percent_by (number_of 3 (take (length how - 1) how))
    else plus_by (tenths_of (slice_split (λ b. b == 46) how))

-- the same; nothing is 30% (T1(b))
abbrev pub amount_or_30 : List ℕ → Result Amount DecisionFault
amount_or_30 how = if length how == 0 then Ok (Percent 30) else amount_of how

abbrev pub penalty_of : PenaltyName → Result Amount DecisionFault → Result Ruling DecisionFault
penalty_of name (Ok amount) = Ok (Penalty name amount)
penalty_of name (Err fault) = Err fault

-- ---- what a time limit takes

abbrev pub after_last_by : Option ℕ → Result Ruling DecisionFault
after_last_by None = Err BadArgument
after_last_by (Some more) = Ok (TimeLimit (AfterLast more))

-- points of at least 1.0
abbrev pub score_by : Option ℕ → Result Ruling DecisionFault
score_by None = Err BadArgument
score_by (Some points) = if nat_le 10 points then Ok (TimeLimit (Score points)) else Err TooFew

-- `last+2`, or points
abbrev pub limit_of : List ℕ → Result Ruling DecisionFault
limit_of how =
    if nat_le 5 (length how) && says (take 5 how) (codes "LAST+")
    then after_last_by (number_of 2 (drop 5 how))
    else score_by (tenths_of (slice_split (λ b. b == 46) how))

-- ---- what averages take

-- whether a race is 1 to 40, and is named once
abbrev pub is_named_once : List ℕ → ℕ → Bool
is_named_once races race =
    nat_le 1 race && nat_le race MAX_RACES && nat_le (count_by (nat_eq race) races) 1

-- races that are named: at most 40, not the race itself, and each once
abbrev pub chosen_by : ℕ → Option (List ℕ) → Result Races DecisionFault
chosen_by race None = Err BadArgument
chosen_by race (Some races) =
    if nat_lt MAX_RACES (length races) then Err BadArgument
    else if list_any (nat_eq race) races then Err Itself
    else if list_all (is_named_once races) races then Ok (Chosen races) else Err BadRaces

-- `sailed`, `all`, `before`, or races as `1,2,4`
abbrev pub races_of : ℕ → List ℕ → Result Races DecisionFault
races_of race how =
    if says how (codes "SAILED") then Ok Sailed
    else if says how (codes "ALL") then Ok Others
    else if says how (codes "BEFORE") then Ok Earlier
    else chosen_by race (numbers_of (slice_split is_comma how))

-- ---- kinds

-- nothing
abbrev pub bare : Ruling → List ℕ → Result Ruling DecisionFault
bare ruling how = if length how == 0 then Ok ruling else Err BadArgument

-- the kind that a word names
abbrev pub kind_of : List ℕ → Option Kind
kind_of word =
    if says word (codes "DPI") then Some kind.Dpi
    else if says word (codes "PRP") then Some kind.Prp
    else if says word (codes "T1") then Some kind.T1
    else if says word (codes "SCP") then Some kind.Scp
    else if says word (codes "TLE") then Some kind.Tle
    else if says word (codes "NSC") then Some kind.Nsc
    else if says word (codes "AVG") then Some kind.Avg
    else if says word (codes "DUTY") then Some kind.Duty
    else if says word (codes "REINSTATE") then Some kind.Reinstate else None

-- what a kind is with what is after it, in a race
abbrev pub ruling_of : ℕ → Kind → List ℕ → Result Ruling DecisionFault
ruling_of race kind.Dpi how = penalty_of Dpi (amount_of how)
ruling_of race kind.Prp how = penalty_of Prp (amount_or_30 how)
ruling_of race kind.T1 how = penalty_of T1 (amount_or_30 how)
ruling_of race kind.Scp how = penalty_of Scp (amount_of how)
ruling_of race kind.Tle how = limit_of how
ruling_of race kind.Nsc how = bare NotSailed how
ruling_of race kind.Avg how = races_of race how >>= λ races. Ok (Average races)
ruling_of race kind.Duty how = races_of race how >>= λ races. Ok (Duty races)
ruling_of race kind.Reinstate how = bare Reinstate how

-- at most 160 bytes are read after a kind
abbrev pub short_ruling_of : ℕ → Kind → List ℕ → Result Ruling DecisionFault
short_ruling_of race kind how =
    if nat_le (length how) 160 then ruling_of race kind how else Err BadArgument

-- ---- lines

-- the race that a word of one or two digits names
abbrev pub race_named : List ℕ → Result ℕ DecisionFault
race_named word = ok_or (option_and_then (within 1 MAX_RACES) (number_of 2 word)) BadRace

-- the sail that words name, joined: `GBR 7`
abbrev pub sail_named : List (List ℕ) → Result Sail DecisionFault
sail_named words = ok_or (sail_of (concat words)) BadSail

-- the decision about a boat in a race, by the words that are her sail, the kind, and the words that
-- the kind takes
abbrev pub decision_named : ℕ → Kind → List (List ℕ) → List (List ℕ) → Result Decision DecisionFault
decision_named race kind sail rest =
    sail_named sail
    >>= λ boat. short_ruling_of race kind (concat rest)
    >>= λ ruling. Ok (record { race = race; sail = boat; ruling = ruling })

-- the same by the words after the race: those up to this position are her sail, the next is the kind
abbrev pub decision_at : ℕ → List (List ℕ) → ℕ → Option Kind → Result Decision DecisionFault
decision_at race words at None = Err NoKind
decision_at race words at (Some kind) =
    decision_named race kind (take (at + 1) words) (drop (at + 2) words)

-- the position of the first of these words that is a kind, if there is one
abbrev pub kind_place : List (List ℕ) → Option ℕ
kind_place words = position (λ word. is_some (kind_of word)) words

abbrev pub decision_by : ℕ → List (List ℕ) → Option ℕ → Result Decision DecisionFault
decision_by race words None = Err NoKind
decision_by race words (Some at) =
    decision_at race words at (kind_of (slice_index_or words (at + 1) []))

-- the decision of a line's words: `race`, a number, a sail, a kind and what it takes; a sail has at
-- least one word
abbrev pub decision_of_words : List (List ℕ) → Result Decision DecisionFault
decision_of_words (first ∷ race ∷ words) =
    if nat_le 2 (length words) && says first (codes "RACE")
    then (race_named race >>= λ r. decision_by r words (kind_place (drop 1 words)))
    else Err BadForm
decision_of_words _ = Err BadForm

-- a decision, if there are words
abbrev pub decision_or_none : List (List ℕ) → Result (Option Decision) DecisionFault
decision_or_none [] = Ok None
decision_or_none (word ∷ words) = decision_of_words (word ∷ words) >>= λ decision. Ok (Some decision)

-- what a line says: nothing, if it has no words before its note; a decision; or its first fault
abbrev pub decision_of : List ℕ → Result (Option Decision) DecisionFault
decision_of line =
    let words = words_of (without_note line) in
    if nat_lt 60 (length words) then Err TooLong else decision_or_none words
