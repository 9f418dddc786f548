-- Worked lines of decisions, by computation.
use Rattle.std.specs.Prelude.{◌≡◌, refl, ℕ, List, [], ◌∷◌, ◌++◌, codes, Option, Some, None, Result, Ok, Err}
use Rattle.std.specs.Prelude.{replicate}
use Rattle.std.specs.List.{concat}
use Rattle.regatta_rulings.specs.declared.decision.Amount.TheVariants.{Percent, Plus}
use Rattle.regatta_rulings.specs.declared.decision.Decision.{Decision}
use Rattle.regatta_rulings.specs.declared.decision.Limit.TheVariants.{AfterLast, Score}
use Rattle.regatta_rulings.specs.declared.decision.PenaltyName.TheVariants.{Dpi, Prp, T1, Scp}
use Rattle.regatta_rulings.specs.declared.decision.Races.TheVariants.{Chosen, Sailed, Others}
use Rattle.regatta_rulings.specs.declared.decision.Races.TheVariants.{Earlier}
use Rattle.regatta_rulings.specs.declared.decision.Ruling.{Ruling}
use Rattle.regatta_rulings.specs.declared.decision.Ruling.TheVariants.{Penalty, TimeLimit}
use Rattle.regatta_rulings.specs.declared.decision.Ruling.TheVariants.{NotSailed, Average, Duty}
use Rattle.regatta_rulings.specs.declared.decision.Ruling.TheVariants.{Reinstate}
use Rattle.regatta_rulings.specs.declared.fault.DecisionFault.{DecisionFault}
use Rattle.regatta_rulings.specs.declared.fault.DecisionFault.TheVariants.{TooLong, BadForm, BadRace}
use Rattle.regatta_rulings.specs.declared.fault.DecisionFault.TheVariants.{NoKind, BadSail}
use Rattle.regatta_rulings.specs.declared.fault.DecisionFault.TheVariants.{BadArgument, BadPercent}
use Rattle.regatta_rulings.specs.declared.fault.DecisionFault.TheVariants.{TooFew, Itself, BadRaces}
use Rattle.regatta_rulings.specs.DecisionLines.{decision_of}

-- this decision about a boat in a race
abbrev pub says : ℕ → List ℕ → Ruling → Result (Option Decision) DecisionFault
says race sail ruling = Ok (Some (record { race = race; sail = sail; ruling = ruling }))

-- ---- the lines of docs/JURY.md

pub share_with_a_note : decision_of (codes "race 3 GBR 7 PRP 30%      # hearing 4")
    ≡ says 3 (codes "GBR7") (Penalty Prp (Percent 30))
share_with_a_note = refl

pub after_the_last : decision_of (codes "race 1 FRA9 TLE last+2")
    ≡ says 1 (codes "FRA9") (TimeLimit (AfterLast 2))
after_the_last = refl

pub named_races : decision_of (codes "race 5 GBR7 AVG 1,2,4")
    ≡ says 5 (codes "GBR7") (Average (Chosen (1 ∷ 2 ∷ 4 ∷ [])))
named_races = refl

pub on_duty : decision_of (codes "race 3 NED1 DUTY sailed") ≡ says 3 (codes "NED1") (Duty Sailed)
on_duty = refl

pub reinstated : decision_of (codes "race 2 K12 REINSTATE") ≡ says 2 (codes "K12") Reinstate
reinstated = refl

-- ---- each kind

pub discretionary : decision_of (codes "race 3 GBR7 DPI 2.5")
    ≡ says 3 (codes "GBR7") (Penalty Dpi (Plus 25))
discretionary = refl

pub scoring_penalty : decision_of (codes "race 3 GBR7 SCP 10%")
    ≡ says 3 (codes "GBR7") (Penalty Scp (Percent 10))
scoring_penalty = refl

-- T1(b)
pub nothing_is_30_percent : decision_of (codes "race 3 GBR7 T1")
    ≡ says 3 (codes "GBR7") (Penalty T1 (Percent 30))
nothing_is_30_percent = refl

pub limit_in_points : decision_of (codes "race 3 GBR7 TLE 12")
    ≡ says 3 (codes "GBR7") (TimeLimit (Score 120))
limit_in_points = refl

pub not_sailed : decision_of (codes "race 3 GBR7 NSC") ≡ says 3 (codes "GBR7") NotSailed
not_sailed = refl

pub all_others : decision_of (codes "race 3 GBR7 AVG all") ≡ says 3 (codes "GBR7") (Average Others)
all_others = refl

pub earlier_ones : decision_of (codes "race 3 GBR7 AVG before")
    ≡ says 3 (codes "GBR7") (Average Earlier)
earlier_ones = refl

-- small letters, more blanks, a carriage return
pub in_any_form : decision_of (codes "  Race 03  gbr 7 avg 1, 2" ++ 13 ∷ [])
    ≡ says 3 (codes "GBR7") (Average (Chosen (1 ∷ 2 ∷ [])))
in_any_form = refl

-- a sail may be a word that is a kind
pub kind_as_a_sail : decision_of (codes "race 3 AVG NSC") ≡ says 3 (codes "AVG") NotSailed
kind_as_a_sail = refl

-- ---- no decisions

pub empty_line : decision_of [] ≡ Ok None
empty_line = refl

pub note_alone : decision_of (codes "  # race 3 GBR7 NSC") ≡ Ok None
note_alone = refl

pub too_short : decision_of (codes "race 3 GBR7") ≡ Err BadForm
too_short = refl

pub no_such_race : decision_of (codes "race 41 GBR7 NSC") ≡ Err BadRace
no_such_race = refl

pub no_such_kind : decision_of (codes "race 3 GBR7 DSQ") ≡ Err NoKind
no_such_kind = refl

pub no_such_sail : decision_of (codes "race 3 GBR/7 NSC") ≡ Err BadSail
no_such_sail = refl

pub more_than_nothing : decision_of (codes "race 3 GBR7 NSC 2") ≡ Err BadArgument
more_than_nothing = refl

pub nothing_of_a_penalty : decision_of (codes "race 3 GBR7 DPI") ≡ Err BadArgument
nothing_of_a_penalty = refl

pub more_than_all : decision_of (codes "race 3 GBR7 DPI 101%") ≡ Err BadPercent
more_than_all = refl

pub no_points : decision_of (codes "race 3 GBR7 DPI 0.0") ≡ Err TooFew
no_points = refl

pub less_than_first : decision_of (codes "race 3 GBR7 TLE 0.9") ≡ Err TooFew
less_than_first = refl

pub names_itself : decision_of (codes "race 3 GBR7 AVG 1,3") ≡ Err Itself
names_itself = refl

pub names_twice : decision_of (codes "race 3 GBR7 AVG 1,1") ≡ Err BadRaces
names_twice = refl

pub names_no_race : decision_of (codes "race 3 GBR7 AVG 0") ≡ Err BadRaces
names_no_race = refl

pub too_many_words : decision_of (concat (replicate 61 (codes "a "))) ≡ Err TooLong
too_many_words = refl
