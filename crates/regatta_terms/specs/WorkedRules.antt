-- Worked examples of the rules of a series and their texts, by computation.
use Rattle.std.specs.Prelude.{◌≡◌, refl, List, ℕ, Option, Some, None, Result, Ok, Err, ◌∷◌, []}
use Rattle.std.specs.Prelude.{codes, map, true, false}
use Rattle.regatta_terms.specs.declared.rules.Absent.{Absent}
use Rattle.regatta_terms.specs.declared.rules.Absent.TheVariants.{A52, A53}
use Rattle.regatta_terms.specs.declared.rules.RulesFault.{RulesFault}
use Rattle.regatta_terms.specs.declared.rules.RulesFault.TheVariants.{ScpOutOfRange, TooMany}
use Rattle.regatta_terms.specs.declared.rules.RulesFault.TheVariants.{NotRising, BelowTwo}
use Rattle.regatta_terms.specs.declared.rules.RulesFault.TheVariants.{AboveForty, BadText}
use Rattle.regatta_terms.specs.Rules.{RulesParts, rules_of, rules_of_texts, exclusions_of}

abbrev pub rules : Absent → Option ℕ → List ℕ → Result RulesParts RulesFault
rules absent scp thresholds = Ok (record {
  absent = absent;
  scp = scp;
  thresholds = thresholds;
  handicap = false;
})

-- the rules of the texts a52 and 2, with this amount
abbrev pub with_amount : List ℕ → Result RulesParts RulesFault
with_amount scp = rules_of_texts (codes "a52") (Some scp) (codes "2") false

-- the rules of the text a52, with these thresholds
abbrev pub with_thresholds : List ℕ → Result RulesParts RulesFault
with_thresholds exclude = rules_of_texts (codes "a52") None exclude false

pub default_texts : with_thresholds (codes "2") ≡ rules A52 None (2 ∷ [])
default_texts = refl

pub other_texts : rules_of_texts (codes "A53") (Some (codes "99")) (codes "none") false
    ≡ rules A53 (Some 99) []
other_texts = refl

pub corrected_times : rules_of_texts (codes "a52") None (codes "2") true
    ≡ Ok (record { absent = A52; scp = None; thresholds = 2 ∷ []; handicap = true })
corrected_times = refl

pub four_thresholds : with_thresholds (codes "2,5,09,40") ≡ rules A52 None (2 ∷ 5 ∷ 9 ∷ 40 ∷ [])
four_thresholds = refl

-- each of the texts of an amount has this fault
abbrev pub AmountsFail : RulesFault → List (List ℕ) → Type 0
AmountsFail fault texts = map with_amount texts ≡ map (λ text. Err fault) texts

-- each of the texts of thresholds has this fault
abbrev pub ThresholdsFail : RulesFault → List (List ℕ) → Type 0
ThresholdsFail fault texts = map with_thresholds texts ≡ map (λ text. Err fault) texts

pub scp_out_of_range : AmountsFail ScpOutOfRange (codes "0" ∷ codes "100" ∷ codes "999" ∷ [])
scp_out_of_range = refl

pub too_many : ThresholdsFail TooMany (codes "2,3,4,5,6" ∷ [])
too_many = refl

-- this takes precedence over a threshold below two
pub not_rising : ThresholdsFail NotRising (codes "3,3" ∷ codes "5,1" ∷ [])
not_rising = refl

pub below_two : ThresholdsFail BelowTwo (codes "1" ∷ [])
below_two = refl

pub above_forty : ThresholdsFail AboveForty (codes "41" ∷ [])
above_forty = refl

pub bad_thresholds : ThresholdsFail BadText
    ([] ∷ codes "2," ∷ codes "2, 3" ∷ codes "002" ∷ codes "NONE" ∷ [])
bad_thresholds = refl

pub bad_amounts : AmountsFail BadText (codes "x" ∷ codes "0001" ∷ [])
bad_amounts = refl

pub text_ahead_of_amount :
    rules_of_texts (codes "a52") (Some (codes "0")) (codes "2,") false ≡ Err BadText
text_ahead_of_amount = refl

pub amount_ahead_of_thresholds : rules_of A52 (Some 100) (3 ∷ 3 ∷ []) false ≡ Err ScpOutOfRange
amount_ahead_of_thresholds = refl

-- how many scores are excluded after one to five races, with the thresholds 2 and 5
pub exclusions : map (exclusions_of (2 ∷ 5 ∷ [])) (1 ∷ 2 ∷ 3 ∷ 4 ∷ 5 ∷ []) ≡ 0 ∷ 1 ∷ 1 ∷ 1 ∷ 2 ∷ []
exclusions = refl

pub none_without_thresholds : exclusions_of [] 40 ≡ 0
none_without_thresholds = refl
