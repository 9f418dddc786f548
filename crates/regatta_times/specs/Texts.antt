-- Times, numbers and ratings as text.
use Rattle.std.specs.Prelude.{ℕ, ◌+◌, ◌-◌, ◌*◌, ◌^◌, Bool, ◌&&◌, ◌==◌, nat_le}
use Rattle.std.specs.Prelude.{List, [], ◌∷◌, length}
use Rattle.std.specs.Prelude.{Option, Some, None, if◌then◌else◌}
use Rattle.std.specs.Char.{is_ascii_digit}
use Rattle.std.specs.List.{list_all, slice_split}
use Rattle.std.specs.Option.{option_map, option_and_then}
use Rattle.std.specs.Str.Parse.{digits_value}
use Rattle.regatta_terms.specs.Numbers.{within}

-- a decimal point
abbrev pub is_dot : ℕ → Bool
is_dot b = b == 46

-- from least to most digits from 0 to 9, and no other byte
abbrev pub are_digits : ℕ → ℕ → List ℕ → Bool
are_digits least most word =
    nat_le least (length word) && nat_le (length word) most && list_all is_ascii_digit word

-- the number that these digits write
abbrev pub number_of : ℕ → ℕ → List ℕ → Option ℕ
number_of least most word =
    if are_digits least most word then Some (digits_value 10 word) else None

-- minutes or seconds after a colon: two digits, from 00 to 59
abbrev pub sixty_of : List ℕ → Option ℕ
sixty_of part = option_and_then (within 0 59) (number_of 2 2 part)

-- hours followed by minutes, or minutes followed by seconds
abbrev pub with_sixtieths : Option ℕ → List ℕ → Option ℕ
with_sixtieths whole part =
    option_and_then (λ w. option_map (λ p. 60 * w + p) (sixty_of part)) whole

-- the byte :
abbrev pub is_colon : ℕ → Bool
is_colon b = b == 58

-- SS, MM:SS or H:MM:SS by its parts; the first may have up to six digits, as 75:30
abbrev pub seconds_of_parts : List (List ℕ) → Option ℕ
seconds_of_parts (seconds ∷ []) = number_of 1 6 seconds
seconds_of_parts (minutes ∷ seconds ∷ []) = with_sixtieths (number_of 1 6 minutes) seconds
seconds_of_parts (hours ∷ minutes ∷ seconds ∷ []) =
    with_sixtieths (with_sixtieths (number_of 1 6 hours) minutes) seconds
seconds_of_parts _ = None

-- an elapsed time, of at most 999,999 seconds
abbrev pub elapsed_of : List ℕ → Option ℕ
elapsed_of text =
    option_and_then (within 0 999999) (seconds_of_parts (slice_split is_colon text))

-- H:MM:SS by its parts, with one or two digits for the hours
abbrev pub clock_of_parts : List (List ℕ) → Option ℕ
clock_of_parts (hours ∷ minutes ∷ seconds ∷ []) =
    with_sixtieths (with_sixtieths (number_of 1 2 hours) minutes) seconds
clock_of_parts _ = None

-- a time of day, before 24:00:00
abbrev pub time_of_day_of : List ℕ → Option ℕ
time_of_day_of text =
    option_and_then (within 0 86399) (clock_of_parts (slice_split is_colon text))

-- digits after a dot, in units of the last place: with 4 places .985 is 9850
abbrev pub decimals_of : ℕ → List ℕ → Option ℕ
decimals_of places part =
    option_map (λ p. 10 ^ (places - length part) * p) (number_of 1 places part)

-- whole units with decimals after a dot
abbrev pub with_decimals : ℕ → Option ℕ → List ℕ → Option ℕ
with_decimals places whole part =
    option_and_then (λ w. option_map (λ p. 10 ^ places * w + p) (decimals_of places part)) whole

-- a decimal number by its parts, in units of the last place: up to three digits, and after a dot
-- no more digits than there are places
abbrev pub decimal_of_parts : ℕ → List (List ℕ) → Option ℕ
decimal_of_parts places (whole ∷ []) = option_map (λ w. 10 ^ places * w) (number_of 1 3 whole)
decimal_of_parts places (whole ∷ part ∷ []) = with_decimals places (number_of 1 3 whole) part
decimal_of_parts places _ = None

abbrev pub decimal_of : ℕ → List ℕ → Option ℕ
decimal_of places word = decimal_of_parts places (slice_split is_dot word)

-- a time-correction factor, in ten-thousandths
abbrev pub factor_of : List ℕ → Option ℕ
factor_of word = option_and_then (within 1 99999) (decimal_of 4 word)

-- a Portsmouth number, in one to four digits
abbrev pub portsmouth_of : List ℕ → Option ℕ
portsmouth_of word = option_and_then (within 1 9999) (number_of 1 4 word)

-- seconds a mile, in hundredths
abbrev pub allowance_of : List ℕ → Option ℕ
allowance_of word = option_and_then (within 0 99999) (decimal_of 2 word)

-- miles, in hundredths
abbrev pub distance_of : List ℕ → Option ℕ
distance_of word = option_and_then (within 1 99999) (decimal_of 2 word)
