-- What kinds of decisions take.
use Rattle.std.proofs.Common.{◌≡◌, ℕ, ◌<◌, ◌≤◌, Bool, true, false, List, [], ◌∷◌, ◌++◌, length, take}
use Rattle.std.proofs.Common.{Option, Some, None, Result, Ok, Err, refl, sym, ap, ◌∙◌, arith, min}
use Rattle.std.proofs.Common.{append-nil, inl, inr}
use Rattle.std.specs.Prelude.{nat_eq, nat_lt, MatchOption, if◌then◌else◌, codes}
use Rattle.std.specs.List.{list_all, list_any, slice_split}
use Rattle.std.specs.Option.{option_map, option_and_then}
use Rattle.std.proofs.lemmas.Bool.{cases_lt, lt-ltb}
use Rattle.std.proofs.lemmas.List.{take_all, take-append-le, length-take}
use Rattle.regatta_terms.specs.Numbers.{number_of}
use Rattle.regatta_terms.specs.Rules.{numbers_of, is_comma}
use Rattle.regatta_terms.specs.Words.{says}
use Rattle.regatta_terms.proofs.RuleFacts.{numbers_left}
use Rattle.regatta_terms.specs.declared.limits.TheConstants.{MAX_RACES}
use Rattle.regatta_rulings.specs.declared.decision.Races.{Races}
use Rattle.regatta_rulings.specs.declared.fault.DecisionFault.{DecisionFault}
use Rattle.regatta_rulings.specs.declared.fault.DecisionFault.TheVariants.{BadArgument, Itself}
use Rattle.regatta_rulings.specs.declared.fault.DecisionFault.TheVariants.{BadRaces}
use Rattle.regatta_rulings.specs.declared.decision.Races.TheVariants.{Chosen}
use Rattle.regatta_rulings.specs.DecisionLines.{chosen_by, is_named_once}
use denote.Ref.{Bor}

-- ---- a list of numbers

numbers_from_cut : (text part : List ℕ) (after : Option (Bor (List ℕ))) (n : ℕ)
    → MatchOption after (slice_split is_comma text ≡ part ∷ [])
    (λ rest. slice_split is_comma text ≡ part ∷ slice_split is_comma rest.now)
    → number_of 2 part ≡ Some n
    → numbers_of (slice_split is_comma text) ≡ option_map (λ ns. n ∷ ns) (numbers_left after)
numbers_from_cut text part None n parts read = ap numbers_of parts
    ∙ ap (option_and_then (λ n. option_map (λ ns. n ∷ ns) (numbers_of []))) read
numbers_from_cut text part (Some rest) n parts read = ap numbers_of parts
    ∙ ap (option_and_then (λ n. option_map (λ ns. n ∷ ns)
    (numbers_of (slice_split is_comma rest.now)))) read

-- what follows the first 41 numbers makes no difference
same_first : (some xs ys : List ℕ) → length some ≡ 41
    → take 41 (some ++ xs) ≡ take 41 (some ++ ys)
same_first some xs ys len = take-append-le 41 some xs (omega arith)
    ∙ sym (take-append-le 41 some ys (omega arith))

pub full_step : (some text part : List ℕ) (after : Option (Bor (List ℕ))) (n : ℕ)
    (all : Option (List ℕ))
    → length some ≡ 41
    → MatchOption after (slice_split is_comma text ≡ part ∷ [])
    (λ rest. slice_split is_comma text ≡ part ∷ slice_split is_comma rest.now)
    → number_of 2 part ≡ Some n
    → option_map (λ ns. take 41 (some ++ ns)) (numbers_of (slice_split is_comma text)) ≡ all
    → option_map (λ ns. take 41 (some ++ ns)) (numbers_left after) ≡ all
full_step some text part after n all len parts read found =
    go (numbers_left after) ∙ ap (option_map (λ ns. take 41 (some ++ ns)))
    (sym (numbers_from_cut text part after n parts read)) ∙ found
  where
    go : (o : Option (List ℕ))
        → option_map (λ ns. take 41 (some ++ ns)) o
        ≡ option_map (λ ns. take 41 (some ++ ns)) (option_map (λ ns. n ∷ ns) o)
    go None = refl
    go (Some ns) = ap Some (same_first some ns (n ∷ ns) len)

pub all_listed : (numbers : List ℕ) (all : Option (List ℕ)) → length numbers ≤ 41
    → option_map (λ ns. take 41 (numbers ++ ns)) (Some []) ≡ all → Some numbers ≡ all
all_listed numbers all short found = ap Some (sym (take_all 41 numbers short)
    ∙ ap (take 41) (sym (append-nil numbers))) ∙ found

-- 41 races or more are too many
first_41 : (race : ℕ) (ns : List ℕ) → chosen_by race (Some (take 41 ns)) ≡ chosen_by race (Some ns)
first_41 race ns = elim (cases_lt 41 (length ns)) [
  | inr short ↦ ap (λ (ns : List ℕ). chosen_by race (Some ns)) (take_all 41 ns short)
  | inl long ↦ too_many (take 41 ns) (omega (arith, length-take 41 ns))
      ∙ sym (too_many ns (omega arith))
]
  where
    too_many : (ns : List ℕ) → MAX_RACES < length ns → chosen_by race (Some ns) ≡ Err BadArgument
    too_many ns long = ap (λ (b : Bool). if b then Err BadArgument
        else if list_any (nat_eq race) ns then Err Itself
        else if list_all (is_named_once ns) ns then Ok (Chosen ns) else Err BadRaces)
        (lt-ltb MAX_RACES (length ns) long)

pub chosen_of_first : (race : ℕ) (first : List ℕ) (all : Option (List ℕ))
    → Some first ≡ option_map (λ ns. take 41 ns) all
    → chosen_by race (Some first) ≡ chosen_by race all
chosen_of_first race first None listed = cc
chosen_of_first race first (Some ns) listed =
    let first_is : first ≡ take 41 ns = cc in
    ap (λ (ns : List ℕ). chosen_by race (Some ns)) first_is ∙ first_41 race ns

pub none_listed : (race : ℕ) (all : Option (List ℕ))
    → None ≡ option_map (λ ns. take 41 ns) all → Err BadArgument ≡ chosen_by race all
none_listed race None listed = refl
none_listed race (Some ns) listed = cc
