-- Points with a dot.
use Rattle.std.proofs.Common.{◌≡◌, ℕ, ◌+◌, ◌*◌, ◌<◌, false, List, [], ◌∷◌, ◌++◌, length}
use Rattle.std.proofs.Common.{Option, Some, None, refl, sym, arith, ap, ◌∙◌}
use Rattle.std.specs.Char.{is_ascii_digit}
use Rattle.std.specs.List.{list_all, slice_split, join_with_byte}
use Rattle.std.specs.Option.{option_map, option_and_then}
use Rattle.std.proofs.lemmas.List.Splits.{length-slice_split, join_with_byte-slice_split}
use Rattle.regatta_terms.specs.Numbers.{number_of, tenths_of}
use Rattle.regatta_terms.proofs.DigitFacts.{is_dot}

-- a word with a dot isn't a number
dotted : (front back : List ℕ) → list_all is_ascii_digit (front ++ 46 ∷ back) ≡ false
dotted [] back = refl
dotted (b ∷ bs) back = rw (dotted bs back) (grind arith)

no_number : (most : ℕ) (front back : List ℕ) → number_of most (front ++ 46 ∷ back) ≡ None
no_number most front back = rw (dotted front back) (grind arith)

no_tenths : (whole : Option ℕ) → option_and_then {T = ℕ} {U = ℕ} (λ w. None) whole ≡ None
no_tenths None = refl
no_tenths (Some w) = refl

tenths_of_parts : (whole : List ℕ) (parts : List (List ℕ)) → 0 < length parts
    → tenths_of (whole ∷ parts) ≡ option_and_then (λ w. option_map (λ p. 10 * w + p)
    (number_of 1 (join_with_byte 46 parts))) (number_of 3 whole)
tenths_of_parts whole [] some = absurd (omega arith)
tenths_of_parts whole (part ∷ []) some = refl
tenths_of_parts whole (part ∷ more ∷ others) some = rw (no_number 1 part
    (join_with_byte 46 (more ∷ others))) (sym (no_tenths (number_of 3 whole)))

tenths_of_split : (whole rest : List ℕ)
    → tenths_of (whole ∷ slice_split is_dot rest)
    ≡ option_and_then (λ w. option_map (λ p. 10 * w + p) (number_of 1 rest)) (number_of 3 whole)
tenths_of_split whole rest =
    tenths_of_parts whole (slice_split is_dot rest) (omega (arith, length-slice_split is_dot rest))
    ∙ ap (λ (text : List ℕ). option_and_then (λ w. option_map (λ p. 10 * w + p) (number_of 1 text))
    (number_of 3 whole)) (join_with_byte-slice_split 46 rest)

-- points with a dot, after the number before it is read
pub tenths_behind : (word front rest : List ℕ) (w : ℕ) (part : Option ℕ)
    → slice_split is_dot word ≡ front ∷ slice_split is_dot rest → number_of 3 front ≡ Some w
    → number_of 1 rest ≡ part
    → option_map (λ p. 10 * w + p) part ≡ tenths_of (slice_split is_dot word)
tenths_behind word front rest w part parts read last =
    sym (ap tenths_of parts ∙ tenths_of_split front rest
    ∙ ap (option_and_then (λ w. option_map (λ p. 10 * w + p) (number_of 1 rest))) read
    ∙ ap (option_map (λ p. 10 * w + p)) last)
