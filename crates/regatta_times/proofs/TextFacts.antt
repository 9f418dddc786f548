-- Where a part of a text still has a mark in it, the text is neither a time nor a number.
use Rattle.std.proofs.Common.{◌≡◌, ℕ, ◌<◌, ◌==◌, false, List, [], ◌∷◌, ◌++◌}
use Rattle.std.proofs.Common.{length, Option, Some, None, refl, sym, ap, ◌∙◌, arith}
use Rattle.std.specs.Char.{is_ascii_digit}
use Rattle.std.specs.List.{list_all, slice_split, join_with_byte}
use Rattle.std.proofs.lemmas.List.Splits.{length-slice_split, join_with_byte-slice_split}
use Rattle.regatta_times.specs.Texts.{is_dot, number_of, sixty_of, with_sixtieths, is_colon}
use Rattle.regatta_times.specs.Texts.{seconds_of_parts, clock_of_parts, decimals_of}
use Rattle.regatta_times.specs.Texts.{decimal_of_parts, with_decimals, decimal_of}

-- a byte that isn't a digit leaves no number
marked : (mark : ℕ) (front back : List ℕ) → is_ascii_digit mark ≡ false
    → list_all is_ascii_digit (front ++ mark ∷ back) ≡ false
marked mark [] back not_digit = rw not_digit refl
marked mark (b ∷ bs) back not_digit = rw (marked mark bs back not_digit) (grind arith)

no_number : (least most mark : ℕ) (front back : List ℕ) → is_ascii_digit mark ≡ false
    → number_of least most (front ++ mark ∷ back) ≡ None
no_number least most mark front back not_digit =
    rw (marked mark front back not_digit) (grind arith)

-- where a text is cut at each mark, all that follows the parts before: by one more part, or by more
-- of them, which a text with a mark in it stands for
behind : (mark : ℕ) (by_parts : List (List ℕ) → Option ℕ) (whole : List ℕ → Option ℕ)
    → ((part : List ℕ) → by_parts (part ∷ []) ≡ whole part)
    → ((part more : List ℕ) (others : List (List ℕ)) → by_parts (part ∷ more ∷ others)
    ≡ whole (part ++ mark ∷ join_with_byte mark (more ∷ others)))
    → (rest : List ℕ) → by_parts (slice_split (λ b. b == mark) rest) ≡ whole rest
behind mark by_parts whole one two rest =
    by (slice_split (λ b. b == mark) rest) (omega (arith, length-slice_split (λ b. b == mark) rest))
    ∙ ap whole (join_with_byte-slice_split mark rest)
  where
    by : (parts : List (List ℕ)) → 0 < length parts
        → by_parts parts ≡ whole (join_with_byte mark parts)
    by [] some = absurd (omega arith)
    by (part ∷ []) some = one part
    by (part ∷ more ∷ others) some = two part more others

no_sixtieths : (whole : Option ℕ) (front back : List ℕ)
    → None ≡ with_sixtieths whole (front ++ 58 ∷ back)
no_sixtieths None front back = refl
no_sixtieths (Some w) front back = rw (no_number 2 2 58 front back refl) refl

-- after the second colon there are seconds, or the time can't be read
pub seconds_behind : (hours minutes rest : List ℕ)
    → seconds_of_parts (hours ∷ minutes ∷ slice_split is_colon rest)
    ≡ with_sixtieths (with_sixtieths (number_of 1 6 hours) minutes) rest
seconds_behind hours minutes =
    let whole = with_sixtieths (number_of 1 6 hours) minutes in
    behind 58 (λ parts. seconds_of_parts (hours ∷ minutes ∷ parts)) (with_sixtieths whole)
    (λ part. refl) (λ part more others. no_sixtieths whole part (join_with_byte 58 (more ∷ others)))

-- the same, from where the text is cut twice
pub seconds_of_cuts : (text hours rest minutes last : List ℕ)
    → slice_split is_colon text ≡ hours ∷ slice_split is_colon rest
    → slice_split is_colon rest ≡ minutes ∷ slice_split is_colon last
    → seconds_of_parts (slice_split is_colon text)
    ≡ with_sixtieths (with_sixtieths (number_of 1 6 hours) minutes) last
seconds_of_cuts text hours rest minutes last first second =
    rw (first, second) (seconds_behind hours minutes last)

pub clock_behind : (hours minutes rest : List ℕ)
    → clock_of_parts (hours ∷ minutes ∷ slice_split is_colon rest)
    ≡ with_sixtieths (with_sixtieths (number_of 1 2 hours) minutes) rest
clock_behind hours minutes =
    let whole = with_sixtieths (number_of 1 2 hours) minutes in
    behind 58 (λ parts. clock_of_parts (hours ∷ minutes ∷ parts)) (with_sixtieths whole)
    (λ part. refl) (λ part more others. no_sixtieths whole part (join_with_byte 58 (more ∷ others)))

pub clock_of_cuts : (text hours rest minutes last : List ℕ)
    → slice_split is_colon text ≡ hours ∷ slice_split is_colon rest
    → slice_split is_colon rest ≡ minutes ∷ slice_split is_colon last
    → clock_of_parts (slice_split is_colon text)
    ≡ with_sixtieths (with_sixtieths (number_of 1 2 hours) minutes) last
clock_of_cuts text hours rest minutes last first second =
    rw (first, second) (clock_behind hours minutes last)

nothing_with : (places : ℕ) (whole : Option ℕ) (front back : List ℕ)
    → None ≡ with_decimals places whole (front ++ 46 ∷ back)
nothing_with places None front back = refl
nothing_with places (Some w) front back = rw (no_number 1 places 46 front back refl) refl

-- after the first dot there are digits, or the number can't be read
pub decimal_behind : (places : ℕ) (whole rest : List ℕ)
    → decimal_of_parts places (whole ∷ slice_split is_dot rest)
    ≡ with_decimals places (number_of 1 3 whole) rest
decimal_behind places whole =
    behind 46 (λ parts. decimal_of_parts places (whole ∷ parts))
    (with_decimals places (number_of 1 3 whole)) (λ part. refl) (λ part more others.
    nothing_with places (number_of 1 3 whole) part (join_with_byte 46 (more ∷ others)))

pub decimal_of_cut : (places : ℕ) (word whole rest : List ℕ)
    → slice_split is_dot word ≡ whole ∷ slice_split is_dot rest
    → decimal_of places word ≡ with_decimals places (number_of 1 3 whole) rest
decimal_of_cut places word whole rest first = rw first (decimal_behind places whole rest)
